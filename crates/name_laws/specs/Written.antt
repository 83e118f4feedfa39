-- How a name is written in texts and lines. The names of classes and methods may hold spaces, line feeds and all else but few characters (JVM Specification
-- SE 8, 4.2); what is written of one is a word, and no two are written alike.
use Rattle.std.specs.Prelude.{ℕ, ◌+◌, ◌-◌, ◌*◌, ◌/◌, ◌%◌, Bool, true, false, ◌==◌, ◌&&◌, not, nat_lt, nat_eq, if◌then◌else◌, List, [], ◌∷◌, ◌++◌}
use Rattle.std.specs.List.{flat_map, list_all}
use lib.Pointwise.{pointwise}
use Rattle.class_pool.specs.declared.class.ClassFile.{ClassFile}
use Rattle.program_tables.specs.Resolved.{method_name}

-- ---- a byte

-- a byte stands as it is but for a space and those below it, a backslash and 127
abbrev pub is_plain : (byte : ℕ) → Bool
is_plain byte = nat_lt 32 byte && not (byte == 92) && not (byte == 127)

abbrev pub capital_digit : ℕ → ℕ
capital_digit d = if nat_lt d 10 then 48 + d else 55 + d

-- `\xHH`, with two hexadecimal digits
abbrev pub escaped : (byte : ℕ) → List ℕ
escaped byte = 92 ∷ 120 ∷ capital_digit (byte / 16) ∷ capital_digit (byte % 16) ∷ []

abbrev pub written_byte : (byte : ℕ) → List ℕ
written_byte byte = if is_plain byte then byte ∷ [] else escaped byte

-- and so does the first, if it isn't a #, with which remarks begin
abbrev pub written_first : (byte : ℕ) → List ℕ
written_first byte = if byte == 35 then escaped byte else written_byte byte

-- ---- a name

abbrev pub written : (name : List ℕ) → List ℕ
written [] = []
written (byte ∷ bytes) = written_first byte ++ flat_map written_byte bytes

-- so the name of a method of a program
abbrev pub written_name : List ClassFile → (method : ℕ) → List ℕ
written_name cs m = written (method_name cs m)

-- whether a name stands as it is
abbrev pub stands : (name : List ℕ) → Bool
stands [] = true
stands (byte ∷ bytes) = not (byte == 35) && list_all is_plain (byte ∷ bytes)

-- a word of a line, which is no remark: it holds no space, no line feed, no other byte below these and no 127, and begins with no #
abbrev pub is_word : (text : List ℕ) → Bool
is_word [] = false
is_word (byte ∷ bytes) = not (byte == 35) && list_all (λ x. nat_lt 32 x && not (x == 127)) (byte ∷ bytes)

-- ---- what a text is written of

abbrev pub digit_value : (digit : ℕ) → ℕ
digit_value digit = if nat_lt digit 58 then digit - 48 else digit - 55

-- each backslash stands before three bytes, of which two are digits
abbrev pub unescaped : (text : List ℕ) → List ℕ
unescaped (a ∷ b ∷ c ∷ d ∷ text) = if a == 92 then ((digit_value c * 16 + digit_value d) % 256) ∷ unescaped text else a ∷ unescaped (b ∷ c ∷ d ∷ text)
unescaped text = text

-- the name that is written so, or none, which is empty
abbrev pub name_in : (text : List ℕ) → List ℕ
name_in text = let name = unescaped text in if pointwise nat_eq (written name) text then name else []

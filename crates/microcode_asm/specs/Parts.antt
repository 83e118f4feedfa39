-- The parts of a line, and the labels and numbers among them.
use Rattle.std.specs.Prelude.{ℕ, ◌-◌, ◌^◌, Bool, true, false, not, ◌&&◌, ◌||◌, ◌==◌, nat_le, nat_eq, if◌then◌else◌, List, [], ◌∷◌, length, take, drop, codes}
use Rattle.std.specs.Prelude.{Option, Some, None, is_some, filter, option_and_then}
use Rattle.std.specs.Char.{is_ascii_digit}
use Rattle.std.specs.List.{slice_split, take_while, list_all}
use Rattle.ascii_text.specs.Number.{value_of}
use lib.Pointwise.{pointwise}

-- the text is this word
abbrev pub is : (text word : List ℕ) → Bool
is text word = pointwise nat_eq text word

abbrev pub is_empty : List ℕ → Bool
is_empty [] = true
is_empty (byte ∷ bytes) = false

-- a comment begins with ;
abbrev pub is_comment : List ℕ → Bool
is_comment [] = false
is_comment (byte ∷ bytes) = byte == 59

-- the parts of a line between its spaces, before its comment
abbrev pub parts_of : (line : List ℕ) → List (List ℕ)
parts_of line = take_while (λ part. not (is_comment part)) (filter (λ part. not (is_empty part)) (slice_split (λ byte. byte == 32) line))

-- ---- numbers

abbrev pub has_leading_zero : List ℕ → Bool
has_leading_zero (first ∷ second ∷ bytes) = first == 48
has_leading_zero bytes = false

-- a decimal number: digits, at least one, without a leading zero, `0` itself excepted
abbrev pub is_number : List ℕ → Bool
is_number text = not (is_empty text) && list_all is_ascii_digit text && not (has_leading_zero text)

-- the number, where it is at most this great
abbrev pub number_up_to : (most : ℕ) → (text : List ℕ) → Option ℕ
number_up_to most text = if is_number text && nat_le (value_of text) most then Some (value_of text) else None

-- -n in 32 bits
abbrev pub negative : ℕ → Option ℕ
negative n = if n == 0 then None else Some (2 ^ 32 - n)

-- the 32 bits of a constant, from -2147483648 to 4294967295
abbrev pub constant_value : (text : List ℕ) → Option ℕ
constant_value [] = None
constant_value (byte ∷ bytes) = if byte == 45 then option_and_then negative (number_up_to (2 ^ 31) bytes) else number_up_to (2 ^ 32 - 1) (byte ∷ bytes)

-- ---- labels

-- a letter, a digit or _
abbrev pub is_name_byte : ℕ → Bool
is_name_byte byte = is_ascii_digit byte || (nat_le 65 byte && nat_le byte 90) || (nat_le 97 byte && nat_le byte 122) || byte == 95

-- the name of a label: letters, digits and _, at least one, and no number
abbrev pub is_name : List ℕ → Bool
is_name text = not (is_empty text) && list_all is_name_byte text && not (is_number text)

-- the name of the label that a part `NAME:` sets
abbrev pub label_of : (part : List ℕ) → Option (List ℕ)
label_of part =
    let name = take (length part - 1) part in
    if is (drop (length part - 1) part) (codes ":") && is_name name then Some name else None

abbrev pub label_and_more : Option (List ℕ) → List (List ℕ) → List (List ℕ)
label_and_more None names = []
label_and_more (Some name) names = name ∷ names

-- the labels that begin a line
abbrev pub labels_of : (parts : List (List ℕ)) → List (List ℕ)
labels_of [] = []
labels_of (part ∷ parts) = label_and_more (label_of part) (labels_of parts)

-- and what is behind them
abbrev pub behind_labels : (parts : List (List ℕ)) → List (List ℕ)
behind_labels [] = []
behind_labels (part ∷ parts) = if is_some (label_of part) then behind_labels parts else part ∷ parts

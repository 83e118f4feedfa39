-- Words as signed numbers, in two's complement.
use Rattle.std.specs.Prelude.{ℕ, ◌+◌, ◌-◌, ◌/◌, ◌%◌, ◌^◌, Bool, true, false, ◌==◌, ◌&&◌, ◌||◌, nat_lt, if◌then◌else◌}

-- the low 8 or 16 bits with their sign, as a word
abbrev pub sign_extended8 : ℕ → ℕ
sign_extended8 x = let low = x % 2 ^ 8 in if nat_lt low (2 ^ 7) then low else low + (2 ^ 32 - 2 ^ 8)

abbrev pub sign_extended16 : ℕ → ℕ
sign_extended16 x = let low = x % 2 ^ 16 in if nat_lt low (2 ^ 15) then low else low + (2 ^ 32 - 2 ^ 16)

abbrev pub is_negative : ℕ → Bool
is_negative x = nat_lt (2 ^ 31 - 1) x

-- a comparison of two words as signed numbers: moved up by 2 ^ 31 they compare as they stand
abbrev pub signed_lt : ℕ → ℕ → Bool
signed_lt x y = nat_lt ((x + 2 ^ 31) % 2 ^ 32) ((y + 2 ^ 31) % 2 ^ 32)

-- a shift to the right that brings in the sign
abbrev pub shifted_right : ℕ → ℕ → ℕ
shifted_right x k = if is_negative x then 2 ^ 32 - 1 - (2 ^ 32 - 1 - x) / 2 ^ k else x / 2 ^ k

abbrev pub number_of : Bool → ℕ
number_of true = 1
number_of false = 0

-- whether an opcode, if it is a conditional branch, goes to its target, where a is the top word and b the one below it (JVM Specification SE 8, chapter 6)
abbrev pub holds : (opcode b a : ℕ) → Bool
holds opcode b a =
    if opcode == 153 || opcode == 198 then a == 0
    else if opcode == 154 || opcode == 199 then nat_lt 0 a
    else if opcode == 155 then is_negative a
    else if opcode == 156 then nat_lt a (2 ^ 31)
    else if opcode == 157 then nat_lt 0 a && nat_lt a (2 ^ 31)
    else if opcode == 158 then a == 0 || is_negative a
    else if opcode == 159 || opcode == 165 then b == a
    else if opcode == 160 || opcode == 166 then nat_lt b a || nat_lt a b
    else if opcode == 161 then signed_lt b a
    else if opcode == 162 then (if signed_lt b a then false else true)
    else if opcode == 163 then signed_lt a b
    else if opcode == 164 then (if signed_lt a b then false else true)
    else false

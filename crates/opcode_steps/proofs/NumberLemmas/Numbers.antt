-- The words of what is computed of ints (JVM Specification SE 8, 6.5).
use Rattle.std.proofs.Common.{◌≡◌, ℕ, zero, suc, ◌+◌, ◌-◌, ◌/◌, ◌%◌, ◌^◌, ◌<◌, ◌≤◌, Bool, cond, nat_lt, sym, ap, ◌∙◌, arith, lt-ltb}
use Rattle.std.specs.Prelude.{ℤ, pos, negsuc, neg_ℤ, unsigned_abs, int_div, int_rem, bit_and, bit_or, bit_xor}
use Rattle.std.specs.Int.{Width, w8, w16, w32, w64, int_wrap, int_wrapping_div, cast_signed, cast_unsigned}
use Rattle.std.specs.Int.RustNames.{FitsSigned}
use mir.Val.{bits}
use Rattle.std.proofs.Math.Nat.{div-le_self, mod-le, mod-eq_of_lt}
use Rattle.std.proofs.lemmas.Bool.{le-ltb}
use Rattle.std.proofs.lemmas.Nat.{and_le_l, or_lt, xor_lt, mod_below}
use Rattle.std.proofs.lemmas.Int.{to_z-of_z, int_wrap_fits, SFits-int_wrap}
use Rattle.jop_core.specs.Operations.{sign_extended8, sign_extended16, shifted_right}
use Rattle.bytecode_model.specs.Numbers.{bitwise, distance, floor_quotient, narrowed, as_char, low_bits}
use Rattle.image_facts.specs.Words.{int_word}
use Rattle.micro_sketch.specs.LongOps.{long_shifted_right}
use Rattle.micro_sketch.specs.DivisionOps as words
use Rattle.opcode_steps.proofs.NumberLemmas.Wrapping.{word_fits, is_word, natural_word, wrapped_natural, wrapped_negative}

-- ---- shifts

pub distance_small : (n : ℤ) (bits : ℕ) → 0 < bits → distance bits n < bits
distance_small n bits some = mod_below (cast_unsigned w32 n) bits some

-- to the right with the sign
right_fits : (w : Width) (x : ℤ) (d : ℕ) → FitsSigned w x → FitsSigned w (floor_quotient x d)
right_fits w (pos n) d h = record { sfits = omega (arith, div-le_self n d, h.sfits) }
right_fits w (negsuc n) d h = record { sfits = omega (arith, div-le_self n d, h.sfits) }

int_shifted_to : (k : ℕ) (x : ℤ) → FitsSigned w32 x → shifted_right (int_word x) k ≡ int_word (floor_quotient x (2 ^ k))
int_shifted_to k (pos n) h =
    let small = h.sfits in
    ap (λ (b : Bool). cond b (2 ^ 32 - 1 - (2 ^ 32 - 1 - n) / 2 ^ k) (n / 2 ^ k)) (le-ltb (2 ^ 31 - 1) n (omega arith))
int_shifted_to k (negsuc n) h =
    let small = h.sfits in
    let inside : 2 ^ 32 - 1 - (2 ^ 32 - suc n) ≡ n = omega arith in
    ap (λ (b : Bool). cond b (2 ^ 32 - 1 - (2 ^ 32 - 1 - (2 ^ 32 - suc n)) / 2 ^ k) ((2 ^ 32 - suc n) / 2 ^ k)) (lt-ltb (2 ^ 31 - 1) (2 ^ 32 - suc n) (omega arith))
    ∙ ap (λ (j : ℕ). 2 ^ 32 - 1 - j / 2 ^ k) inside
    ∙ omega arith

pub int_shifted : (k : ℕ) (x : ℤ) → FitsSigned w32 x → shifted_right (int_word x) k ≡ int_word (int_wrap w32 (floor_quotient x (2 ^ k)))
int_shifted k x h = int_shifted_to k x h ∙ ap int_word (sym (int_wrap_fits w32 (floor_quotient x (2 ^ k)) (right_fits w32 x (2 ^ k) h)))

long_shifted_to : (k : ℕ) (x : ℤ) → FitsSigned w64 x → long_shifted_right (cast_unsigned w64 x) k ≡ cast_unsigned w64 (floor_quotient x (2 ^ k))
long_shifted_to k (pos n) h =
    let small = h.sfits in
    ap (λ (b : Bool). cond b (2 ^ 64 - 1 - (2 ^ 64 - 1 - n) / 2 ^ k) (n / 2 ^ k)) (le-ltb (2 ^ 63 - 1) n (omega arith))
long_shifted_to k (negsuc n) h =
    let small = h.sfits in
    let inside : 2 ^ 64 - 1 - (2 ^ 64 - suc n) ≡ n = omega arith in
    ap (λ (b : Bool). cond b (2 ^ 64 - 1 - (2 ^ 64 - 1 - (2 ^ 64 - suc n)) / 2 ^ k) ((2 ^ 64 - suc n) / 2 ^ k)) (lt-ltb (2 ^ 63 - 1) (2 ^ 64 - suc n) (omega arith))
    ∙ ap (λ (j : ℕ). 2 ^ 64 - 1 - j / 2 ^ k) inside
    ∙ omega arith

pub long_shifted : (k : ℕ) (x : ℤ) → FitsSigned w64 x → long_shifted_right (cast_unsigned w64 x) k ≡ cast_unsigned w64 (int_wrap w64 (floor_quotient x (2 ^ k)))
long_shifted k x h = long_shifted_to k x h ∙ ap (cast_unsigned w64) (sym (int_wrap_fits w64 (floor_quotient x (2 ^ k)) (right_fits w64 x (2 ^ k) h)))

-- to the right without it
pub shifted_unsigned : (w : Width) (k : ℕ) (x : ℤ) → FitsSigned w x → cast_unsigned w x / 2 ^ k ≡ cast_unsigned w (int_wrap w (pos (cast_unsigned w x / 2 ^ k)))
shifted_unsigned w k x h = natural_word w (cast_unsigned w x / 2 ^ k) (omega (arith, div-le_self (cast_unsigned w x) (2 ^ k), word_fits w x h))

-- ---- bit by bit

pub ands : (w : Width) (x y : ℤ) → FitsSigned w x → bit_and (cast_unsigned w x) (cast_unsigned w y) ≡ cast_unsigned w (int_wrap w (bitwise w bit_and y x))
ands w x y p = natural_word w (bit_and (cast_unsigned w x) (cast_unsigned w y)) (omega (arith, and_le_l (cast_unsigned w x) (cast_unsigned w y), word_fits w x p))

pub ors : (w : Width) (x y : ℤ) → FitsSigned w x → FitsSigned w y → bit_or (cast_unsigned w x) (cast_unsigned w y) ≡ cast_unsigned w (int_wrap w (bitwise w bit_or y x))
ors w x y p q = natural_word w (bit_or (cast_unsigned w x) (cast_unsigned w y)) (or_lt (bits w) (cast_unsigned w x) (cast_unsigned w y) (word_fits w x p) (word_fits w y q))

pub xors : (w : Width) (x y : ℤ) → FitsSigned w x → FitsSigned w y → bit_xor (cast_unsigned w x) (cast_unsigned w y) ≡ cast_unsigned w (int_wrap w (bitwise w bit_xor y x))
xors w x y p q = natural_word w (bit_xor (cast_unsigned w x) (cast_unsigned w y)) (xor_lt (bits w) (cast_unsigned w x) (cast_unsigned w y) (word_fits w x p) (word_fits w y q))

-- ---- low bits

low_natural : (w : Width) (n : ℕ) → n % 2 ^ bits w < 2 ^ bits w → n % 2 ^ bits w ≡ low_bits w (pos n)
low_natural w n small = is_word w (n % 2 ^ bits w) (pos n) small (wrapped_natural w n)

low_negative : (w : Width) (n : ℕ) → 2 ^ bits w - 1 - n % 2 ^ bits w < 2 ^ bits w → 2 ^ bits w - 1 - n % 2 ^ bits w ≡ low_bits w (negsuc n)
low_negative w n small = is_word w (2 ^ bits w - 1 - n % 2 ^ bits w) (negsuc n) small (wrapped_negative w n)

pub low_byte : (x : ℤ) → FitsSigned w32 x → int_word x % 2 ^ 8 ≡ low_bits w8 x
low_byte (pos n) h = low_natural w8 n (omega arith)
low_byte (negsuc n) h = let small = h.sfits in let e : (2 ^ 32 - suc n) % 2 ^ 8 ≡ 2 ^ 8 - 1 - n % 2 ^ 8 = omega arith in e ∙ low_negative w8 n (omega arith)

pub low_half : (x : ℤ) → FitsSigned w32 x → int_word x % 2 ^ 16 ≡ low_bits w16 x
low_half (pos n) h = low_natural w16 n (omega arith)
low_half (negsuc n) h = let small = h.sfits in let e : (2 ^ 32 - suc n) % 2 ^ 16 ≡ 2 ^ 16 - 1 - n % 2 ^ 16 = omega arith in e ∙ low_negative w16 n (omega arith)

pub low_int : (x : ℤ) → FitsSigned w64 x → cast_unsigned w64 x % 2 ^ 32 ≡ low_bits w32 x
low_int (pos n) h = low_natural w32 n (omega arith)
low_int (negsuc n) h = let small = h.sfits in let e : (2 ^ 64 - suc n) % 2 ^ 32 ≡ 2 ^ 32 - 1 - n % 2 ^ 32 = omega arith in e ∙ low_negative w32 n (omega arith)

-- with their sign
byte_extended : (y : ℤ) → FitsSigned w8 y → cond (nat_lt (cast_unsigned w8 y) (2 ^ 7)) (cast_unsigned w8 y) (cast_unsigned w8 y + (2 ^ 32 - 2 ^ 8)) ≡ int_word y
byte_extended (pos n) h = ap (λ (b : Bool). cond b n (n + (2 ^ 32 - 2 ^ 8))) (lt-ltb n (2 ^ 7) h.sfits)
byte_extended (negsuc n) h =
    let small = h.sfits in
    ap (λ (b : Bool). cond b (2 ^ 8 - suc n) (2 ^ 8 - suc n + (2 ^ 32 - 2 ^ 8))) (le-ltb (2 ^ 8 - suc n) (2 ^ 7) (omega arith)) ∙ omega arith

half_extended : (y : ℤ) → FitsSigned w16 y → cond (nat_lt (cast_unsigned w16 y) (2 ^ 15)) (cast_unsigned w16 y) (cast_unsigned w16 y + (2 ^ 32 - 2 ^ 16)) ≡ int_word y
half_extended (pos n) h = ap (λ (b : Bool). cond b n (n + (2 ^ 32 - 2 ^ 16))) (lt-ltb n (2 ^ 15) h.sfits)
half_extended (negsuc n) h =
    let small = h.sfits in
    ap (λ (b : Bool). cond b (2 ^ 16 - suc n) (2 ^ 16 - suc n + (2 ^ 32 - 2 ^ 16))) (le-ltb (2 ^ 16 - suc n) (2 ^ 15) (omega arith)) ∙ omega arith

byte_is_int : (y : ℤ) → FitsSigned w8 y → FitsSigned w32 y
byte_is_int (pos n) h = record { sfits = omega (arith, h.sfits) }
byte_is_int (negsuc n) h = record { sfits = omega (arith, h.sfits) }

half_is_int : (y : ℤ) → FitsSigned w16 y → FitsSigned w32 y
half_is_int (pos n) h = record { sfits = omega (arith, h.sfits) }
half_is_int (negsuc n) h = record { sfits = omega (arith, h.sfits) }

pub byte_narrowed : (x : ℤ) → FitsSigned w32 x → sign_extended8 (int_word x) ≡ int_word (int_wrap w32 (narrowed w8 x))
byte_narrowed x h =
    let y = SFits-int_wrap w8 x in
    ap (λ (low : ℕ). cond (nat_lt low (2 ^ 7)) low (low + (2 ^ 32 - 2 ^ 8))) (low_byte x h)
    ∙ byte_extended (int_wrap w8 x) y ∙ ap int_word (sym (int_wrap_fits w32 (int_wrap w8 x) (byte_is_int (int_wrap w8 x) y)))

pub half_narrowed : (x : ℤ) → FitsSigned w32 x → sign_extended16 (int_word x) ≡ int_word (int_wrap w32 (narrowed w16 x))
half_narrowed x h =
    let y = SFits-int_wrap w16 x in
    ap (λ (low : ℕ). cond (nat_lt low (2 ^ 15)) low (low + (2 ^ 32 - 2 ^ 16))) (low_half x h)
    ∙ half_extended (int_wrap w16 x) y ∙ ap int_word (sym (int_wrap_fits w32 (int_wrap w16 x) (half_is_int (int_wrap w16 x) y)))

pub char_narrowed : (x : ℤ) → FitsSigned w32 x → int_word x % 2 ^ 16 ≡ int_word (int_wrap w32 (as_char x))
char_narrowed x h = natural_word w32 (int_word x % 2 ^ 16) (omega arith) ∙ ap (λ (k : ℕ). int_word (int_wrap w32 (pos k))) (low_half x h)

-- ---- division

-- no quotient and no remainder of ints is more than 2 ^ 31 from 0

down_near : (n : ℕ) → n ≤ 2 ^ 31 → unsigned_abs (neg_ℤ (pos n)) ≤ 2 ^ 31
down_near zero h = h
down_near (suc n) h = h

quotient_near : (x y : ℤ) → FitsSigned w32 x → unsigned_abs (int_div x y) ≤ 2 ^ 31
quotient_near (pos a) (pos b) h = omega (arith, div-le_self a b, h.sfits)
quotient_near (pos a) (negsuc b) h = down_near (a / suc b) (omega (arith, div-le_self a (suc b), h.sfits))
quotient_near (negsuc a) (pos b) h = down_near (suc a / b) (omega (arith, div-le_self (suc a) b, h.sfits))
quotient_near (negsuc a) (negsuc b) h = omega (arith, div-le_self (suc a) (suc b), h.sfits)

remainder_near : (x y : ℤ) → FitsSigned w32 x → unsigned_abs (int_rem x y) ≤ 2 ^ 31
remainder_near (pos a) y h = omega (arith, mod-le a (unsigned_abs y), h.sfits)
remainder_near (negsuc a) y h = down_near (suc a % unsigned_abs y) (omega (arith, mod-le (suc a) (unsigned_abs y), h.sfits))

near_read : (z : ℤ) → unsigned_abs z ≤ 2 ^ 31 → cast_signed w32 (int_word z) ≡ int_wrap w32 z
near_read (pos n) h = ap (cast_signed w32) (sym (mod-eq_of_lt (omega arith))) ∙ wrapped_natural w32 n
near_read (negsuc n) h = let fits : FitsSigned w32 (negsuc n) = record { sfits = omega (arith, h) } in to_z-of_z w32 (negsuc n) fits ∙ sym (int_wrap_fits w32 (negsuc n) fits)

near_small : (z : ℤ) → unsigned_abs z ≤ 2 ^ 31 → int_word z < 2 ^ 32
near_small (pos n) h = omega (arith, h)
near_small (negsuc n) h = omega (arith, h)

near_word : (z : ℤ) → unsigned_abs z ≤ 2 ^ 31 → int_word z ≡ int_word (int_wrap w32 z)
near_word z h = is_word w32 (int_word z) z (near_small z h) (near_read z h)

pub quotient_word : (x y : ℤ) → FitsSigned w32 x → FitsSigned w32 y → words.quotient (int_word x) (int_word y) ≡ int_word (int_wrap w32 (int_div x y))
quotient_word x y p q =
    ap (λ (z : ℤ). int_word (int_wrapping_div w32 z (cast_signed w32 (int_word y)))) (to_z-of_z w32 x p)
    ∙ ap (λ (z : ℤ). int_word (int_wrapping_div w32 x z)) (to_z-of_z w32 y q)
    ∙ ap int_word (near_read (int_div x y) (quotient_near x y p))

pub remainder_word : (x y : ℤ) → FitsSigned w32 x → FitsSigned w32 y → words.remainder (int_word x) (int_word y) ≡ int_word (int_wrap w32 (int_rem x y))
remainder_word x y p q =
    ap (λ (z : ℤ). int_word (int_rem z (cast_signed w32 (int_word y)))) (to_z-of_z w32 x p)
    ∙ ap (λ (z : ℤ). int_word (int_rem x z)) (to_z-of_z w32 y q)
    ∙ near_word (int_rem x y) (remainder_near x y p)

-- What an array of bytes, chars or shorts keeps of a word, as numbers (JVM Specification SE 8, 6.5.bastore, castore and sastore).
use Rattle.std.proofs.Common.{◌≡◌, ℕ, suc, ◌+◌, ◌-◌, ◌*◌, ◌/◌, ◌%◌, ◌^◌, ◌<◌, ◌≤◌, Bool, true, false, cond, nat_lt, refl, sym, ap, ◌∙◌, arith, lt-ltb, ltb-true, ltb-false, if◌then◌else◌}
use Rattle.std.specs.Prelude.{ℤ, pos, negsuc}
use Rattle.std.specs.Int.{Width, w8, w16, w32, w64, int_wrap, cast_signed, cast_unsigned}
use Rattle.std.specs.Int.RustNames.{FitsSigned}
use mir.Val.{bits}
use Rattle.std.proofs.Math.Nat.{mod-eq_of_lt}
use Rattle.std.proofs.lemmas.Bool.{le-ltb}
use Rattle.std.proofs.lemmas.Nat.{and_mask}
use Rattle.std.proofs.lemmas.Int.{of_z-to_z, int_wrap_fits, SFits-int_wrap}
use Rattle.jop_core.specs.Operations.{sign_extended8, sign_extended16, shifted_right}
use Rattle.bytecode_model.specs.Numbers.{unchanged, narrowed, as_char, low_bits}
use Rattle.image_facts.specs.Words.{int_word}
use Rattle.opcode_steps.proofs.HeapLemmas.ArrayRows.{kept_int, kept_byte, kept_short, kept_char}

-- ---- words

is_word : (w : Width) (k : ℕ) (z : ℤ) → k < 2 ^ bits w → cast_signed w k ≡ int_wrap w z → k ≡ cast_unsigned w (int_wrap w z)
is_word w k z small e = sym (of_z-to_z w k small) ∙ ap (cast_unsigned w) e

wrapped_natural : (w : Width) (n : ℕ) → cast_signed w (n % 2 ^ bits w) ≡ int_wrap w (pos n)
unfolding int_wrap
wrapped_natural w n = refl

wrapped_negative : (w : Width) (n : ℕ) → cast_signed w (2 ^ bits w - 1 - n % 2 ^ bits w) ≡ int_wrap w (negsuc n)
unfolding int_wrap
wrapped_negative w n = refl

natural_word : (w : Width) (n : ℕ) → n < 2 ^ bits w → n ≡ cast_unsigned w (int_wrap w (pos n))
natural_word w n small = is_word w n (pos n) small (ap (cast_signed w) (sym (mod-eq_of_lt small)) ∙ wrapped_natural w n)

low_natural : (w : Width) (n : ℕ) → n % 2 ^ bits w < 2 ^ bits w → n % 2 ^ bits w ≡ low_bits w (pos n)
low_natural w n small = is_word w (n % 2 ^ bits w) (pos n) small (wrapped_natural w n)

low_negative : (w : Width) (n : ℕ) → 2 ^ bits w - 1 - n % 2 ^ bits w < 2 ^ bits w → 2 ^ bits w - 1 - n % 2 ^ bits w ≡ low_bits w (negsuc n)
low_negative w n small = is_word w (2 ^ bits w - 1 - n % 2 ^ bits w) (negsuc n) small (wrapped_negative w n)

low_byte : (x : ℤ) → FitsSigned w32 x → int_word x % 2 ^ 8 ≡ low_bits w8 x
low_byte (pos n) h = low_natural w8 n (omega arith)
low_byte (negsuc n) h = let small = h.sfits in let e : (2 ^ 32 - suc n) % 2 ^ 8 ≡ 2 ^ 8 - 1 - n % 2 ^ 8 = omega arith in e ∙ low_negative w8 n (omega arith)

low_half : (x : ℤ) → FitsSigned w32 x → int_word x % 2 ^ 16 ≡ low_bits w16 x
low_half (pos n) h = low_natural w16 n (omega arith)
low_half (negsuc n) h = let small = h.sfits in let e : (2 ^ 32 - suc n) % 2 ^ 16 ≡ 2 ^ 16 - 1 - n % 2 ^ 16 = omega arith in e ∙ low_negative w16 n (omega arith)

-- ---- with their sign

-- up and down again by the same number of bits brings in the sign
extended8 : (n : ℕ) → shifted_right ((n * 2 ^ 24) % 2 ^ 32) 24 ≡ sign_extended8 n
extended8 n = by (nat_lt (2 ^ 31 - 1) m) (nat_lt (n % 2 ^ 8) (2 ^ 7)) refl refl
  where
    m : ℕ
    m = (n * 2 ^ 24) % 2 ^ 32

    by : (a b : Bool) → nat_lt (2 ^ 31 - 1) m ≡ a → nat_lt (n % 2 ^ 8) (2 ^ 7) ≡ b
        → (if a then 2 ^ 32 - 1 - (2 ^ 32 - 1 - m) / 2 ^ 24 else m / 2 ^ 24) ≡ (if b then n % 2 ^ 8 else n % 2 ^ 8 + (2 ^ 32 - 2 ^ 8))
    by true true e f = omega (arith, ltb-true (2 ^ 31 - 1) m e, ltb-true (n % 2 ^ 8) (2 ^ 7) f)
    by true false e f = omega (arith, ltb-true (2 ^ 31 - 1) m e, ltb-false (n % 2 ^ 8) (2 ^ 7) f)
    by false true e f = omega (arith, ltb-false (2 ^ 31 - 1) m e, ltb-true (n % 2 ^ 8) (2 ^ 7) f)
    by false false e f = omega (arith, ltb-false (2 ^ 31 - 1) m e, ltb-false (n % 2 ^ 8) (2 ^ 7) f)

extended16 : (n : ℕ) → shifted_right ((n * 2 ^ 16) % 2 ^ 32) 16 ≡ sign_extended16 n
extended16 n = by (nat_lt (2 ^ 31 - 1) m) (nat_lt (n % 2 ^ 16) (2 ^ 15)) refl refl
  where
    m : ℕ
    m = (n * 2 ^ 16) % 2 ^ 32

    by : (a b : Bool) → nat_lt (2 ^ 31 - 1) m ≡ a → nat_lt (n % 2 ^ 16) (2 ^ 15) ≡ b
        → (if a then 2 ^ 32 - 1 - (2 ^ 32 - 1 - m) / 2 ^ 16 else m / 2 ^ 16) ≡ (if b then n % 2 ^ 16 else n % 2 ^ 16 + (2 ^ 32 - 2 ^ 16))
    by true true e f = omega (arith, ltb-true (2 ^ 31 - 1) m e, ltb-true (n % 2 ^ 16) (2 ^ 15) f)
    by true false e f = omega (arith, ltb-true (2 ^ 31 - 1) m e, ltb-false (n % 2 ^ 16) (2 ^ 15) f)
    by false true e f = omega (arith, ltb-false (2 ^ 31 - 1) m e, ltb-true (n % 2 ^ 16) (2 ^ 15) f)
    by false false e f = omega (arith, ltb-false (2 ^ 31 - 1) m e, ltb-false (n % 2 ^ 16) (2 ^ 15) f)

byte_extended : (y : ℤ) → FitsSigned w8 y → cond (nat_lt (cast_unsigned w8 y) (2 ^ 7)) (cast_unsigned w8 y) (cast_unsigned w8 y + (2 ^ 32 - 2 ^ 8)) ≡ int_word y
byte_extended (pos n) h = ap (λ (b : Bool). cond b n (n + (2 ^ 32 - 2 ^ 8))) (lt-ltb n (2 ^ 7) h.sfits)
byte_extended (negsuc n) h =
    let small = h.sfits in
    ap (λ (b : Bool). cond b (2 ^ 8 - suc n) (2 ^ 8 - suc n + (2 ^ 32 - 2 ^ 8))) (le-ltb (2 ^ 8 - suc n) (2 ^ 7) (omega arith)) ∙ omega arith

half_extended : (y : ℤ) → FitsSigned w16 y → cond (nat_lt (cast_unsigned w16 y) (2 ^ 15)) (cast_unsigned w16 y) (cast_unsigned w16 y + (2 ^ 32 - 2 ^ 16)) ≡ int_word y
half_extended (pos n) h = ap (λ (b : Bool). cond b n (n + (2 ^ 32 - 2 ^ 16))) (lt-ltb n (2 ^ 15) h.sfits)
half_extended (negsuc n) h =
    let small = h.sfits in
    ap (λ (b : Bool). cond b (2 ^ 16 - suc n) (2 ^ 16 - suc n + (2 ^ 32 - 2 ^ 16))) (le-ltb (2 ^ 16 - suc n) (2 ^ 15) (omega arith)) ∙ omega arith

byte_is_int : (y : ℤ) → FitsSigned w8 y → FitsSigned w32 y
byte_is_int (pos n) h = record { sfits = omega (arith, h.sfits) }
byte_is_int (negsuc n) h = record { sfits = omega (arith, h.sfits) }

half_is_int : (y : ℤ) → FitsSigned w16 y → FitsSigned w32 y
half_is_int (pos n) h = record { sfits = omega (arith, h.sfits) }
half_is_int (negsuc n) h = record { sfits = omega (arith, h.sfits) }

-- ---- what is kept

-- the word that is kept of an int is that of the number that is
abbrev pub Keeps : (ℕ → ℕ) → (ℤ → ℤ) → Type 0
Keeps kept number = (x : ℤ) → FitsSigned w32 x → kept (int_word x) ≡ int_word (int_wrap w32 (number x))

pub keeps_int : Keeps kept_int unchanged
keeps_int x h = ap int_word (sym (int_wrap_fits w32 x h))

pub keeps_byte : Keeps kept_byte (narrowed w8)
keeps_byte x h =
    let y = SFits-int_wrap w8 x in
    extended8 (int_word x) ∙ ap (λ (low : ℕ). cond (nat_lt low (2 ^ 7)) low (low + (2 ^ 32 - 2 ^ 8))) (low_byte x h)
    ∙ byte_extended (int_wrap w8 x) y ∙ ap int_word (sym (int_wrap_fits w32 (int_wrap w8 x) (byte_is_int (int_wrap w8 x) y)))

pub keeps_short : Keeps kept_short (narrowed w16)
keeps_short x h =
    let y = SFits-int_wrap w16 x in
    extended16 (int_word x) ∙ ap (λ (low : ℕ). cond (nat_lt low (2 ^ 15)) low (low + (2 ^ 32 - 2 ^ 16))) (low_half x h)
    ∙ half_extended (int_wrap w16 x) y ∙ ap int_word (sym (int_wrap_fits w32 (int_wrap w16 x) (half_is_int (int_wrap w16 x) y)))

pub keeps_char : Keeps kept_char as_char
keeps_char x h =
    and_mask (int_word x) 16 ∙ natural_word w32 (int_word x % 2 ^ 16) (omega arith) ∙ ap (λ (k : ℕ). int_word (int_wrap w32 (pos k))) (low_half x h)

-- a long stays as it is
pub keeps_long : (x : ℤ) → FitsSigned w64 x → int_wrap w64 x ≡ x
keeps_long x h = int_wrap_fits w64 x h

-- ---- an index

-- that of an int which isn't negative is the int
pub natural_index : (k : ℕ) → FitsSigned w32 (pos k) → int_word (pos k) ≡ k
natural_index k h = refl

-- that of a negative one is past the end of every array
pub negative_index : (k : ℕ) → FitsSigned w32 (negsuc k) → 2 ^ 31 ≤ int_word (negsuc k)
negative_index k h = omega (arith, h.sfits)

-- The words of what is computed of longs (JVM Specification SE 8, 6.5), from their words.
use Rattle.std.proofs.Common.{◌≡◌, ℕ, suc, ◌+◌, ◌-◌, ◌/◌, ◌%◌, ◌^◌, ◌<◌, Bool, true, false, cond, nat_lt, refl, sym, ap, ◌∙◌, arith, lt-ltb}
use Rattle.std.specs.Prelude.{ℤ, pos, negsuc, bit_and, bit_or, bit_xor, int_lt}
use Rattle.std.specs.Int.{w32, w64, int_wrap, cast_unsigned}
use Rattle.std.specs.Int.RustNames.{FitsSigned}
use Rattle.std.proofs.lemmas.Bool.{ltb-true, le-ltb, ltb_from_iff}
use Rattle.std.proofs.lemmas.Nat.{div-add-mod', and_mod, or_mod, xor_mod, and_shr, or_shr, xor_shr}
use Rattle.std.proofs.lemmas.Int.{int_wrap_fits}
use Rattle.jop_core.specs.Operations.{is_negative, signed_lt}
use Rattle.bytecode_model.specs.Numbers.{bitwise, compared}
use Rattle.image_facts.specs.Words.{int_word, high_word, low_word}
use Rattle.micro_sketch.specs.LongOps.{long_of, long_lt}
use Rattle.opcode_steps.proofs.NumberLemmas.Wrapping.{word_fits}
use Rattle.opcode_steps.proofs.NumberLemmas.Numbers.{ands, ors, xors}

-- the two words of a long are the long
pub joined : (x : ℤ) → long_of (high_word x) (low_word x) ≡ cast_unsigned w64 x
joined x = div-add-mod' (cast_unsigned w64 x) (2 ^ 32)

pub high_fits : (x : ℤ) → FitsSigned w64 x → high_word x < 2 ^ 32
high_fits x h = omega (arith, word_fits w64 x h)

pub low_fits : (x : ℤ) → low_word x < 2 ^ 32
low_fits x = omega arith

-- ---- bit by bit

pub and_low : (x y : ℤ) → FitsSigned w64 x → bit_and (low_word x) (low_word y) ≡ low_word (int_wrap w64 (bitwise w64 bit_and y x))
and_low x y p = sym (and_mod (cast_unsigned w64 x) (cast_unsigned w64 y) 32) ∙ ap (λ (k : ℕ). k % 2 ^ 32) (ands w64 x y p)

pub and_high : (x y : ℤ) → FitsSigned w64 x → bit_and (high_word x) (high_word y) ≡ high_word (int_wrap w64 (bitwise w64 bit_and y x))
and_high x y p = sym (and_shr (cast_unsigned w64 x) (cast_unsigned w64 y) 32) ∙ ap (λ (k : ℕ). k / 2 ^ 32) (ands w64 x y p)

pub or_low : (x y : ℤ) → FitsSigned w64 x → FitsSigned w64 y → bit_or (low_word x) (low_word y) ≡ low_word (int_wrap w64 (bitwise w64 bit_or y x))
or_low x y p q = sym (or_mod (cast_unsigned w64 x) (cast_unsigned w64 y) 32) ∙ ap (λ (k : ℕ). k % 2 ^ 32) (ors w64 x y p q)

pub or_high : (x y : ℤ) → FitsSigned w64 x → FitsSigned w64 y → bit_or (high_word x) (high_word y) ≡ high_word (int_wrap w64 (bitwise w64 bit_or y x))
or_high x y p q = sym (or_shr (cast_unsigned w64 x) (cast_unsigned w64 y) 32) ∙ ap (λ (k : ℕ). k / 2 ^ 32) (ors w64 x y p q)

pub xor_low : (x y : ℤ) → FitsSigned w64 x → FitsSigned w64 y → bit_xor (low_word x) (low_word y) ≡ low_word (int_wrap w64 (bitwise w64 bit_xor y x))
xor_low x y p q = sym (xor_mod (cast_unsigned w64 x) (cast_unsigned w64 y) 32) ∙ ap (λ (k : ℕ). k % 2 ^ 32) (xors w64 x y p q)

pub xor_high : (x y : ℤ) → FitsSigned w64 x → FitsSigned w64 y → bit_xor (high_word x) (high_word y) ≡ high_word (int_wrap w64 (bitwise w64 bit_xor y x))
xor_high x y p q = sym (xor_shr (cast_unsigned w64 x) (cast_unsigned w64 y) 32) ∙ ap (λ (k : ℕ). k / 2 ^ 32) (xors w64 x y p q)

-- ---- an int as a long

int_is_long : (x : ℤ) → FitsSigned w32 x → FitsSigned w64 x
int_is_long (pos n) h = record { sfits = omega (arith, h.sfits) }
int_is_long (negsuc n) h = record { sfits = omega (arith, h.sfits) }

low_widened : (x : ℤ) → FitsSigned w32 x → int_word x ≡ low_word x
low_widened (pos n) h = omega (arith, h.sfits)
low_widened (negsuc n) h = omega (arith, h.sfits)

high_widened : (x : ℤ) → FitsSigned w32 x → cond (is_negative (int_word x)) (2 ^ 32 - 1) 0 ≡ high_word x
high_widened (pos n) h = ap (λ (b : Bool). cond b (2 ^ 32 - 1) 0) (le-ltb (2 ^ 31 - 1) n (omega (arith, h.sfits))) ∙ omega (arith, h.sfits)
high_widened (negsuc n) h = ap (λ (b : Bool). cond b (2 ^ 32 - 1) 0) (lt-ltb (2 ^ 31 - 1) (2 ^ 32 - suc n) (omega (arith, h.sfits))) ∙ omega (arith, h.sfits)

pub widened_low : (x : ℤ) → FitsSigned w32 x → int_word x ≡ low_word (int_wrap w64 x)
widened_low x h = low_widened x h ∙ ap low_word (sym (int_wrap_fits w64 x (int_is_long x h)))

pub widened_high : (x : ℤ) → FitsSigned w32 x → cond (is_negative (int_word x)) (2 ^ 32 - 1) 0 ≡ high_word (int_wrap w64 x)
widened_high x h = high_widened x h ∙ ap high_word (sym (int_wrap_fits w64 x (int_is_long x h)))

-- ---- comparisons

-- tests that hold at the same time are the same
same_test : (a b c d : ℕ) → (a < b → c < d) → (c < d → a < b) → nat_lt a b ≡ nat_lt c d
same_test a b c d f g = ltb_from_iff {m = c} {n = d} (λ (t : nat_lt a b ≡ true). f (ltb-true a b t), λ (h : c < d). lt-ltb a b (g h))

pub ints_compare : (x y : ℤ) → FitsSigned w32 x → FitsSigned w32 y → signed_lt (int_word x) (int_word y) ≡ int_lt x y
ints_compare (pos a) (pos b) p q =
    let small = p.sfits in let small2 = q.sfits in
    same_test ((a + 2 ^ 31) % 2 ^ 32) ((b + 2 ^ 31) % 2 ^ 32) a b (λ (h : (a + 2 ^ 31) % 2 ^ 32 < (b + 2 ^ 31) % 2 ^ 32). omega arith) (λ (h : a < b). omega arith)
ints_compare (pos a) (negsuc b) p q = le-ltb ((a + 2 ^ 31) % 2 ^ 32) ((2 ^ 32 - suc b + 2 ^ 31) % 2 ^ 32) (omega (arith, p.sfits, q.sfits))
ints_compare (negsuc a) (pos b) p q = lt-ltb ((2 ^ 32 - suc a + 2 ^ 31) % 2 ^ 32) ((b + 2 ^ 31) % 2 ^ 32) (omega (arith, p.sfits, q.sfits))
ints_compare (negsuc a) (negsuc b) p q =
    let small = p.sfits in let small2 = q.sfits in
    same_test ((2 ^ 32 - suc a + 2 ^ 31) % 2 ^ 32) ((2 ^ 32 - suc b + 2 ^ 31) % 2 ^ 32) b a
    (λ (h : (2 ^ 32 - suc a + 2 ^ 31) % 2 ^ 32 < (2 ^ 32 - suc b + 2 ^ 31) % 2 ^ 32). omega arith) (λ (h : b < a). omega arith)

pub longs_compare : (x y : ℤ) → FitsSigned w64 x → FitsSigned w64 y → long_lt (cast_unsigned w64 x) (cast_unsigned w64 y) ≡ int_lt x y
longs_compare (pos a) (pos b) p q =
    let small = p.sfits in let small2 = q.sfits in
    same_test ((a + 2 ^ 63) % 2 ^ 64) ((b + 2 ^ 63) % 2 ^ 64) a b (λ (h : (a + 2 ^ 63) % 2 ^ 64 < (b + 2 ^ 63) % 2 ^ 64). omega arith) (λ (h : a < b). omega arith)
longs_compare (pos a) (negsuc b) p q = le-ltb ((a + 2 ^ 63) % 2 ^ 64) ((2 ^ 64 - suc b + 2 ^ 63) % 2 ^ 64) (omega (arith, p.sfits, q.sfits))
longs_compare (negsuc a) (pos b) p q = lt-ltb ((2 ^ 64 - suc a + 2 ^ 63) % 2 ^ 64) ((b + 2 ^ 63) % 2 ^ 64) (omega (arith, p.sfits, q.sfits))
longs_compare (negsuc a) (negsuc b) p q =
    let small = p.sfits in let small2 = q.sfits in
    same_test ((2 ^ 64 - suc a + 2 ^ 63) % 2 ^ 64) ((2 ^ 64 - suc b + 2 ^ 63) % 2 ^ 64) b a
    (λ (h : (2 ^ 64 - suc a + 2 ^ 63) % 2 ^ 64 < (2 ^ 64 - suc b + 2 ^ 63) % 2 ^ 64). omega arith) (λ (h : b < a). omega arith)

order_word : (less more : Bool) → cond less (2 ^ 32 - 1) (cond more 1 0) ≡ int_word (int_wrap w32 (cond less (negsuc 0) (cond more (pos 1) (pos 0))))
unfolding int_wrap
order_word true more = refl
order_word false true = refl
order_word false false = refl

pub compared_word : (x y : ℤ) → FitsSigned w64 x → FitsSigned w64 y
    → cond (long_lt (cast_unsigned w64 x) (cast_unsigned w64 y)) (2 ^ 32 - 1) (cond (long_lt (cast_unsigned w64 y) (cast_unsigned w64 x)) 1 0) ≡ int_word (int_wrap w32 (compared y x))
compared_word x y p q =
    ap (λ (b : Bool). cond b (2 ^ 32 - 1) (cond (long_lt (cast_unsigned w64 y) (cast_unsigned w64 x)) 1 0)) (longs_compare x y p q)
    ∙ ap (λ (b : Bool). cond (int_lt x y) (2 ^ 32 - 1) (cond b 1 0)) (longs_compare y x q p)
    ∙ order_word (int_lt x y) (int_lt y x)

-- What each opcode that computes makes of the words of its numbers (JVM Specification SE 8, 6.5).
use Rattle.std.proofs.Common.{◌≡◌, ℕ, ◌+◌, ◌-◌, ◌*◌, ◌/◌, ◌%◌, ◌^◌, ◌<◌, ◌≤◌, false, cond, List, [], ◌∷◌, drop, length, refl, ◌∙◌, ap, arith}
use Rattle.std.specs.Prelude.{ℤ, bit_and, bit_or, bit_xor, slice_index}
use Rattle.std.specs.Int.{w8, w16, w32, w64, int_wrap, cast_unsigned}
use Rattle.std.specs.Int.RustNames.{FitsSigned}
use Rattle.std.proofs.lemmas.Nat.{pow_below}
use Rattle.jop_core.specs.Operations.{is_negative, sign_extended8, sign_extended16, shifted_right}
use Rattle.micro_sketch.specs.Sketch.{Sketch}
use Rattle.micro_sketch.specs.Row.{words_of}
use Rattle.micro_sketch.specs.Opcodes as plain
use Rattle.micro_sketch.specs.Opcodes.{PlainOp, OfStack, OfLong, IsReady, raises}
use Rattle.micro_sketch.specs.Operand.{leaves}
use Rattle.micro_sketch.specs.StackOps as stack
use Rattle.micro_sketch.specs.StackOps.{third, fourth}
use Rattle.micro_sketch.specs.LongOps as long
use Rattle.micro_sketch.specs.LongOps.{long_of, with_long, upper_long, lower_long, long_below, long_shifted_right, long_lt, HasTwoLongs, HasLongBelow}
use Rattle.bytecode_model.specs.Types.{IntType, LongType}
use Rattle.bytecode_model.specs.Numbers as numbers
use Rattle.bytecode_model.specs.Numbers.{bitwise, distance, floor_quotient, narrowed, as_char, compared}
use Rattle.image_facts.specs.Words.{int_word, high_word, low_word}
use Rattle.opcode_steps.proofs.NumberLemmas.Wrapping.{word_fits, sum_word, difference_word, product_word, negated_word, shifted_word}
use Rattle.opcode_steps.proofs.NumberLemmas.Numbers.{distance_small, int_shifted, long_shifted, shifted_unsigned, ands, ors, xors, low_int, byte_narrowed, half_narrowed, char_narrowed}
use Rattle.opcode_steps.proofs.NumberLemmas.Longs.{joined, high_fits, low_fits, and_low, and_high, or_low, or_high, xor_low, xor_high, widened_low, widened_high, compared_word}
use Rattle.opcode_steps.proofs.NumberLemmas.Taken.{result_words}
use Rattle.opcode_steps.proofs.NumberLemmas.Computing.{Makes}

-- ---- the words of the stack, one by one

-- the word on top, and the others
pub top_is : (a b : ℕ) (us vs : List ℕ) → a ∷ us ≡ b ∷ vs → (a ≡ b) × (us ≡ vs)
top_is a b us vs e = let p : a ≡ b = cc in let q : us ≡ vs = cc in (p, q)

-- ---- ints

-- of one int
one_int : (op : PlainOp) (w : ℕ → ℕ) (g : ℤ → ℤ) → ((x : Sketch) → x.top < 2 ^ 32 → IsReady op x) → ((x : Sketch) → raises op x ≡ false) → ((x : Sketch) → plain.effect op x ≡ leaves (w x.top ∷ x.next ∷ x.under) x)
    → ((x : ℤ) → FitsSigned w32 x → w (int_word x) ≡ int_word (int_wrap w32 (g x))) → Makes op (IntType ∷ []) IntType (λ ns. g ns.0)
one_int op w g ready calm makes good x ns tail fit words long =
    let (e, f) = top_is x.top (int_word ns.0) (x.next ∷ x.under) tail words in
    record {
      ready = ready x (omega (arith, e, word_fits w32 ns.0 fit.0));
      calm = calm x;
      effect = makes x ∙ ap (λ (ws : List ℕ). leaves ws x) (ap (λ (k : ℕ). w k ∷ x.next ∷ x.under) e ∙ ap (λ (us : List ℕ). w (int_word ns.0) ∷ us) f ∙ ap (λ (k : ℕ). k ∷ tail) (good ns.0 fit.0));
    }

-- of two
two_ints : (op : PlainOp) (w : ℕ → ℕ → ℕ) (g : ℤ → ℤ → ℤ) → ((x : Sketch) → IsReady op x) → ((x : Sketch) → raises op x ≡ false) → ((x : Sketch) → plain.effect op x ≡ leaves (w x.next x.top ∷ x.under) x)
    → ((x y : ℤ) → FitsSigned w32 x → FitsSigned w32 y → w (int_word x) (int_word y) ≡ int_word (int_wrap w32 (g y x))) → Makes op (IntType ∷ IntType ∷ []) IntType (λ ns. g ns.0 ns.1.0)
two_ints op w g ready calm makes good x ns tail fit words long =
    let (e, f) = top_is x.top (int_word ns.0) (x.next ∷ x.under) (int_word ns.1.0 ∷ tail) words in
    let (d, u) = top_is x.next (int_word ns.1.0) x.under tail f in
    record {
      ready = ready x;
      calm = calm x;
      effect = makes x ∙ ap (λ (ws : List ℕ). leaves ws x)
          (ap (λ (k : ℕ). w x.next k ∷ x.under) e ∙ ap (λ (k : ℕ). w k (int_word ns.0) ∷ x.under) d ∙ ap (λ (us : List ℕ). w (int_word ns.1.0) (int_word ns.0) ∷ us) u
          ∙ ap (λ (k : ℕ). k ∷ tail) (good ns.1.0 ns.0 fit.1.0 fit.0));
    }

pub iadd : Makes (OfStack stack.Iadd) (IntType ∷ IntType ∷ []) IntType (λ ns. numbers.sum ns.0 ns.1.0)
iadd = two_ints (OfStack stack.Iadd) (λ b a. (b + a) % 2 ^ 32) numbers.sum (λ x. tt) (λ x. refl) (λ x. refl) (sum_word w32)

pub isub : Makes (OfStack stack.Isub) (IntType ∷ IntType ∷ []) IntType (λ ns. numbers.difference ns.0 ns.1.0)
isub = two_ints (OfStack stack.Isub) (λ b a. (b + (2 ^ 32 - a)) % 2 ^ 32) numbers.difference (λ x. tt) (λ x. refl) (λ x. refl) (difference_word w32)

pub imul : Makes (OfStack stack.Imul) (IntType ∷ IntType ∷ []) IntType (λ ns. numbers.product ns.0 ns.1.0)
imul = two_ints (OfStack stack.Imul) (λ b a. (b * a) % 2 ^ 32) numbers.product (λ x. tt) (λ x. refl) (λ x. refl) (product_word w32)

pub ineg : Makes (OfStack stack.Ineg) (IntType ∷ []) IntType (λ ns. numbers.negated ns.0)
ineg = one_int (OfStack stack.Ineg) (λ a. (2 ^ 32 - a) % 2 ^ 32) numbers.negated (λ x small. small) (λ x. refl) (λ x. refl) (negated_word w32)

-- the distance of a shift is less than the width
int_distance : (n : ℤ) → 2 ^ distance 32 n < 2 ^ 32
int_distance n = pow_below (distance 32 n) 32 (distance_small n 32 (omega arith))

long_distance : (n : ℤ) → 2 ^ distance 64 n < 2 ^ 64
long_distance n = pow_below (distance 64 n) 64 (distance_small n 64 (omega arith))

pub ishl : Makes (OfStack stack.Ishl) (IntType ∷ IntType ∷ []) IntType (λ ns. numbers.shifted_left 32 ns.0 ns.1.0)
ishl = two_ints (OfStack stack.Ishl) (λ b a. (b * 2 ^ (a % 32)) % 2 ^ 32) (numbers.shifted_left 32) (λ x. tt) (λ x. refl) (λ x. refl) (λ x n p q. shifted_word w32 x (distance 32 n) p (int_distance n))

pub ishr : Makes (OfStack stack.Ishr) (IntType ∷ IntType ∷ []) IntType (λ ns. numbers.shifted_right 32 ns.0 ns.1.0)
ishr = two_ints (OfStack stack.Ishr) (λ b a. shifted_right b (a % 32)) (numbers.shifted_right 32) (λ x. tt) (λ x. refl) (λ x. refl) (λ x n p q. int_shifted (distance 32 n) x p)

pub iushr : Makes (OfStack stack.Iushr) (IntType ∷ IntType ∷ []) IntType (λ ns. numbers.shifted_right_unsigned w32 32 ns.0 ns.1.0)
iushr = two_ints (OfStack stack.Iushr) (λ b a. b / 2 ^ (a % 32)) (numbers.shifted_right_unsigned w32 32) (λ x. tt) (λ x. refl) (λ x. refl) (λ x n p q. shifted_unsigned w32 (distance 32 n) x p)

pub iand : Makes (OfStack stack.Iand) (IntType ∷ IntType ∷ []) IntType (λ ns. bitwise w32 bit_and ns.0 ns.1.0)
iand = two_ints (OfStack stack.Iand) bit_and (bitwise w32 bit_and) (λ x. tt) (λ x. refl) (λ x. refl) (λ x y p q. ands w32 x y p)

pub ior : Makes (OfStack stack.Ior) (IntType ∷ IntType ∷ []) IntType (λ ns. bitwise w32 bit_or ns.0 ns.1.0)
ior = two_ints (OfStack stack.Ior) bit_or (bitwise w32 bit_or) (λ x. tt) (λ x. refl) (λ x. refl) (ors w32)

pub ixor : Makes (OfStack stack.Ixor) (IntType ∷ IntType ∷ []) IntType (λ ns. bitwise w32 bit_xor ns.0 ns.1.0)
ixor = two_ints (OfStack stack.Ixor) bit_xor (bitwise w32 bit_xor) (λ x. tt) (λ x. refl) (λ x. refl) (xors w32)

pub i2b : Makes (OfStack stack.I2b) (IntType ∷ []) IntType (λ ns. narrowed w8 ns.0)
i2b = one_int (OfStack stack.I2b) sign_extended8 (narrowed w8) (λ x small. tt) (λ x. refl) (λ x. refl) byte_narrowed

pub i2c : Makes (OfStack stack.I2c) (IntType ∷ []) IntType (λ ns. as_char ns.0)
i2c = one_int (OfStack stack.I2c) (λ a. a % 2 ^ 16) as_char (λ x small. tt) (λ x. refl) (λ x. refl) char_narrowed

pub i2s : Makes (OfStack stack.I2s) (IntType ∷ []) IntType (λ ns. narrowed w16 ns.0)
i2s = one_int (OfStack stack.I2s) sign_extended16 (narrowed w16) (λ x small. tt) (λ x. refl) (λ x. refl) half_narrowed

-- ---- longs

-- the sketch has a long on top
record LongOnTop (x : Sketch) (n : ℤ) (tail : List ℕ) : Type 0 where
  low : x.top ≡ low_word n
  high : x.next ≡ high_word n
  under : x.under ≡ tail

long_on_top : (x : Sketch) (n : ℤ) (tail : List ℕ) → words_of x ≡ low_word n ∷ high_word n ∷ tail → LongOnTop x n tail
long_on_top x n tail words =
    let (e, f) = top_is x.top (low_word n) (x.next ∷ x.under) (high_word n ∷ tail) words in
    let (d, u) = top_is x.next (high_word n) x.under tail f in
    record { low = e; high = d; under = u }

upper_is : (x : Sketch) (n : ℤ) (tail : List ℕ) → LongOnTop x n tail → upper_long x ≡ cast_unsigned w64 n
upper_is x n tail h = ap (λ (k : ℕ). long_of k x.top) h.high ∙ ap (λ (k : ℕ). long_of (high_word n) k) h.low ∙ joined n

-- two of them
record LongsOnTop (x : Sketch) (n k : ℤ) (tail : List ℕ) : Type 0 where
  upper : LongOnTop x n (low_word k ∷ high_word k ∷ tail)
  third_is : third x ≡ low_word k
  fourth_is : fourth x ≡ high_word k
  rest : drop 2 x.under ≡ tail

longs_on_top : (x : Sketch) (n k : ℤ) (tail : List ℕ) → words_of x ≡ low_word n ∷ high_word n ∷ low_word k ∷ high_word k ∷ tail → LongsOnTop x n k tail
longs_on_top x n k tail words =
    let h = long_on_top x n (low_word k ∷ high_word k ∷ tail) words in
    record { upper = h; third_is = ap (λ (us : List ℕ). slice_index us 0) h.under; fourth_is = ap (λ (us : List ℕ). slice_index us 1) h.under; rest = ap (λ (us : List ℕ). drop 2 us) h.under }

lower_is : (x : Sketch) (n k : ℤ) (tail : List ℕ) → LongsOnTop x n k tail → lower_long x ≡ cast_unsigned w64 k
lower_is x n k tail h = ap (λ (j : ℕ). long_of j (third x)) h.fourth_is ∙ ap (λ (j : ℕ). long_of (high_word k) j) h.third_is ∙ joined k

two_longs_ready : (x : Sketch) (n k : ℤ) (tail : List ℕ) → FitsSigned w64 n → FitsSigned w64 k → 5 ≤ length tail → LongsOnTop x n k tail → HasTwoLongs x
two_longs_ready x n k tail p q long h = record {
  four = omega (arith, ap length h.upper.under, long);
  low = omega (arith, h.upper.low, low_fits n);
  high = omega (arith, h.upper.high, high_fits n p);
  lower_low = omega (arith, h.third_is, low_fits k);
  lower_high = omega (arith, h.fourth_is, high_fits k q);
}

-- the word of a result as a long
long_is : (v : ℕ) (z : ℤ) (us tail : List ℕ) → v ≡ cast_unsigned w64 (int_wrap w64 z) → us ≡ tail → with_long v us ≡ result_words LongType z tail
long_is v z us tail e u = ap (λ (k : ℕ). with_long k us) e ∙ ap (λ (ws : List ℕ). with_long (cast_unsigned w64 (int_wrap w64 z)) ws) u

-- a long of two
two_longs : (op : PlainOp) (w : ℕ → ℕ → ℕ) (g : ℤ → ℤ → ℤ) → ((x : Sketch) → HasTwoLongs x → IsReady op x) → ((x : Sketch) → raises op x ≡ false)
    → ((x : Sketch) → plain.effect op x ≡ leaves (with_long (w (lower_long x) (upper_long x)) (drop 2 x.under)) x)
    → ((x y : ℤ) → FitsSigned w64 x → FitsSigned w64 y → w (cast_unsigned w64 x) (cast_unsigned w64 y) ≡ cast_unsigned w64 (int_wrap w64 (g y x)))
    → Makes op (LongType ∷ LongType ∷ []) LongType (λ ns. g ns.0 ns.1.0)
two_longs op w g ready calm makes good x ns tail fit words long =
    let h = longs_on_top x ns.0 ns.1.0 tail words in
    record {
      ready = ready x (two_longs_ready x ns.0 ns.1.0 tail fit.0 fit.1.0 long h);
      calm = calm x;
      effect = makes x ∙ ap (λ (ws : List ℕ). leaves ws x)
          (long_is (w (lower_long x) (upper_long x)) (g ns.0 ns.1.0) (drop 2 x.under) tail
          (ap (λ (k : ℕ). w k (upper_long x)) (lower_is x ns.0 ns.1.0 tail h) ∙ ap (λ (k : ℕ). w (cast_unsigned w64 ns.1.0) k) (upper_is x ns.0 (low_word ns.1.0 ∷ high_word ns.1.0 ∷ tail) h.upper)
          ∙ good ns.1.0 ns.0 fit.1.0 fit.0)
          h.rest);
    }

pub ladd : Makes (OfLong long.Ladd) (LongType ∷ LongType ∷ []) LongType (λ ns. numbers.sum ns.0 ns.1.0)
ladd = two_longs (OfLong long.Ladd) (λ b a. (b + a) % 2 ^ 64) numbers.sum (λ x h. h) (λ x. refl) (λ x. refl) (sum_word w64)

pub lsub : Makes (OfLong long.Lsub) (LongType ∷ LongType ∷ []) LongType (λ ns. numbers.difference ns.0 ns.1.0)
lsub = two_longs (OfLong long.Lsub) (λ b a. (b + (2 ^ 64 - a)) % 2 ^ 64) numbers.difference (λ x h. h) (λ x. refl) (λ x. refl) (difference_word w64)

-- bit by bit, each word by itself
long_bits : (op : PlainOp) (f : ℕ → ℕ → ℕ) → ((x : Sketch) → HasTwoLongs x → IsReady op x) → ((x : Sketch) → raises op x ≡ false)
    → ((x : Sketch) → plain.effect op x ≡ leaves (f (third x) x.top ∷ f (fourth x) x.next ∷ drop 2 x.under) x)
    → ((x y : ℤ) → FitsSigned w64 x → FitsSigned w64 y → f (low_word x) (low_word y) ≡ low_word (int_wrap w64 (bitwise w64 f y x)))
    → ((x y : ℤ) → FitsSigned w64 x → FitsSigned w64 y → f (high_word x) (high_word y) ≡ high_word (int_wrap w64 (bitwise w64 f y x)))
    → Makes op (LongType ∷ LongType ∷ []) LongType (λ ns. bitwise w64 f ns.0 ns.1.0)
long_bits op f ready calm makes low high x ns tail fit words long =
    let h = longs_on_top x ns.0 ns.1.0 tail words in
    let below = f (fourth x) x.next ∷ drop 2 x.under in
    record {
      ready = ready x (two_longs_ready x ns.0 ns.1.0 tail fit.0 fit.1.0 long h);
      calm = calm x;
      effect = makes x ∙ ap (λ (ws : List ℕ). leaves ws x)
          (ap (λ (k : ℕ). f k x.top ∷ below) h.third_is ∙ ap (λ (k : ℕ). f (low_word ns.1.0) k ∷ below) h.upper.low ∙ ap (λ (k : ℕ). k ∷ below) (low ns.1.0 ns.0 fit.1.0 fit.0)
          ∙ ap (λ (ws : List ℕ). low_word (int_wrap w64 (bitwise w64 f ns.0 ns.1.0)) ∷ ws)
          (ap (λ (k : ℕ). f k x.next ∷ drop 2 x.under) h.fourth_is ∙ ap (λ (k : ℕ). f (high_word ns.1.0) k ∷ drop 2 x.under) h.upper.high
          ∙ ap (λ (k : ℕ). k ∷ drop 2 x.under) (high ns.1.0 ns.0 fit.1.0 fit.0)
          ∙ ap (λ (us : List ℕ). high_word (int_wrap w64 (bitwise w64 f ns.0 ns.1.0)) ∷ us) h.rest));
    }

pub land : Makes (OfLong long.Land) (LongType ∷ LongType ∷ []) LongType (λ ns. bitwise w64 bit_and ns.0 ns.1.0)
land = long_bits (OfLong long.Land) bit_and (λ x h. h) (λ x. refl) (λ x. refl) (λ x y p q. and_low x y p) (λ x y p q. and_high x y p)

pub lor : Makes (OfLong long.Lor) (LongType ∷ LongType ∷ []) LongType (λ ns. bitwise w64 bit_or ns.0 ns.1.0)
lor = long_bits (OfLong long.Lor) bit_or (λ x h. h) (λ x. refl) (λ x. refl) or_low or_high

pub lxor : Makes (OfLong long.Lxor) (LongType ∷ LongType ∷ []) LongType (λ ns. bitwise w64 bit_xor ns.0 ns.1.0)
lxor = long_bits (OfLong long.Lxor) bit_xor (λ x h. h) (λ x. refl) (λ x. refl) xor_low xor_high

pub lneg : Makes (OfLong long.Lneg) (LongType ∷ []) LongType (λ ns. numbers.negated ns.0)
lneg x ns tail fit words long =
    let h = long_on_top x ns.0 tail words in
    record {
      ready = (omega (arith, h.low, low_fits ns.0), omega (arith, h.high, high_fits ns.0 fit.0));
      calm = refl;
      effect = ap (λ (ws : List ℕ). leaves ws x)
          (long_is ((2 ^ 64 - upper_long x) % 2 ^ 64) (numbers.negated ns.0) x.under tail (ap (λ (k : ℕ). (2 ^ 64 - k) % 2 ^ 64) (upper_is x ns.0 tail h) ∙ negated_word w64 ns.0 fit.0) h.under);
    }

-- a long below an int: the distance of a shift
shifts : (op : PlainOp) (w : ℕ → ℕ → ℕ) (g : ℤ → ℤ → ℤ) → ((x : Sketch) → HasLongBelow x → IsReady op x) → ((x : Sketch) → raises op x ≡ false)
    → ((x : Sketch) → plain.effect op x ≡ leaves (with_long (w (long_below x) (x.top % 64)) (drop 1 x.under)) x)
    → ((x n : ℤ) → FitsSigned w64 x → w (cast_unsigned w64 x) (distance 64 n) ≡ cast_unsigned w64 (int_wrap w64 (g n x)))
    → Makes op (IntType ∷ LongType ∷ []) LongType (λ ns. g ns.0 ns.1.0)
shifts op w g ready calm makes good x ns tail fit words long =
    let (e, f) = top_is x.top (int_word ns.0) (x.next ∷ x.under) (low_word ns.1.0 ∷ high_word ns.1.0 ∷ tail) words in
    let (d, u) = top_is x.next (low_word ns.1.0) x.under (high_word ns.1.0 ∷ tail) f in
    let upper : third x ≡ high_word ns.1.0 = ap (λ (us : List ℕ). slice_index us 0) u in
    let below : long_below x ≡ cast_unsigned w64 ns.1.0 = ap (λ (k : ℕ). long_of k x.next) upper ∙ ap (λ (k : ℕ). long_of (high_word ns.1.0) k) d ∙ joined ns.1.0 in
    record {
      ready = ready x (record { count = omega (arith, e, word_fits w32 ns.0 fit.0); low = omega (arith, d, low_fits ns.1.0); high = omega (arith, upper, high_fits ns.1.0 fit.1.0) });
      calm = calm x;
      effect = makes x ∙ ap (λ (ws : List ℕ). leaves ws x)
          (long_is (w (long_below x) (x.top % 64)) (g ns.0 ns.1.0) (drop 1 x.under) tail
          (ap (λ (k : ℕ). w k (x.top % 64)) below ∙ ap (λ (k : ℕ). w (cast_unsigned w64 ns.1.0) (k % 64)) e ∙ good ns.1.0 ns.0 fit.1.0)
          (ap (λ (us : List ℕ). drop 1 us) u));
    }

pub lshl : Makes (OfLong long.Lshl) (IntType ∷ LongType ∷ []) LongType (λ ns. numbers.shifted_left 64 ns.0 ns.1.0)
lshl = shifts (OfLong long.Lshl) (λ v k. (v * 2 ^ k) % 2 ^ 64) (numbers.shifted_left 64) (λ x h. h) (λ x. refl) (λ x. refl) (λ x n p. shifted_word w64 x (distance 64 n) p (long_distance n))

pub lshr : Makes (OfLong long.Lshr) (IntType ∷ LongType ∷ []) LongType (λ ns. numbers.shifted_right 64 ns.0 ns.1.0)
lshr = shifts (OfLong long.Lshr) long_shifted_right (numbers.shifted_right 64) (λ x h. h) (λ x. refl) (λ x. refl) (λ x n p. long_shifted (distance 64 n) x p)

pub lushr : Makes (OfLong long.Lushr) (IntType ∷ LongType ∷ []) LongType (λ ns. numbers.shifted_right_unsigned w64 64 ns.0 ns.1.0)
lushr = shifts (OfLong long.Lushr) (λ v k. v / 2 ^ k) (numbers.shifted_right_unsigned w64 64) (λ x h. h) (λ x. refl) (λ x. refl) (λ x n p. shifted_unsigned w64 (distance 64 n) x p)

-- ---- between them

pub i2l : Makes (OfLong long.I2l) (IntType ∷ []) LongType (λ ns. numbers.unchanged ns.0)
i2l x ns tail fit words long =
    let (e, f) = top_is x.top (int_word ns.0) (x.next ∷ x.under) tail words in
    record {
      ready = omega (arith, e, word_fits w32 ns.0 fit.0);
      calm = refl;
      effect = ap (λ (ws : List ℕ). leaves ws x)
          (ap (λ (k : ℕ). k ∷ cond (is_negative k) (2 ^ 32 - 1) 0 ∷ x.next ∷ x.under) e ∙ ap (λ (us : List ℕ). int_word ns.0 ∷ cond (is_negative (int_word ns.0)) (2 ^ 32 - 1) 0 ∷ us) f
          ∙ ap (λ (k : ℕ). k ∷ cond (is_negative (int_word ns.0)) (2 ^ 32 - 1) 0 ∷ tail) (widened_low ns.0 fit.0)
          ∙ ap (λ (k : ℕ). low_word (int_wrap w64 ns.0) ∷ k ∷ tail) (widened_high ns.0 fit.0));
    }

pub l2i : Makes (OfLong long.L2i) (LongType ∷ []) IntType (λ ns. numbers.unchanged ns.0)
l2i x ns tail fit words long =
    let h = long_on_top x ns.0 tail words in
    record {
      ready = tt;
      calm = refl;
      effect = ap (λ (ws : List ℕ). leaves ws x) (ap (λ (k : ℕ). k ∷ x.under) (h.low ∙ low_int ns.0 fit.0) ∙ ap (λ (us : List ℕ). int_word (int_wrap w32 ns.0) ∷ us) h.under);
    }

pub lcmp : Makes (OfLong long.Lcmp) (LongType ∷ LongType ∷ []) IntType (λ ns. compared ns.0 ns.1.0)
lcmp x ns tail fit words long =
    let h = longs_on_top x ns.0 ns.1.0 tail words in
    let order : ℕ → ℕ → ℕ = λ a b. cond (long_lt a b) (2 ^ 32 - 1) (cond (long_lt b a) 1 0) in
    record {
      ready = two_longs_ready x ns.0 ns.1.0 tail fit.0 fit.1.0 long h;
      calm = refl;
      effect = ap (λ (ws : List ℕ). leaves ws x)
          (ap (λ (k : ℕ). order k (upper_long x) ∷ drop 2 x.under) (lower_is x ns.0 ns.1.0 tail h)
          ∙ ap (λ (k : ℕ). order (cast_unsigned w64 ns.1.0) k ∷ drop 2 x.under) (upper_is x ns.0 (low_word ns.1.0 ∷ high_word ns.1.0 ∷ tail) h.upper)
          ∙ ap (λ (k : ℕ). k ∷ drop 2 x.under) (compared_word ns.1.0 ns.0 fit.1.0 fit.0)
          ∙ ap (λ (us : List ℕ). int_word (int_wrap w32 (compared ns.0 ns.1.0)) ∷ us) h.rest);
    }

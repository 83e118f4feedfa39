-- The rows of opcodes of longs that aren't shifts.
use Rattle.std.proofs.Common.{◌≡◌, ℕ, suc, ◌+◌, ◌-◌, ◌/◌, ◌%◌, ◌^◌, ◌<◌, ◌≤◌, Bool, true, false, nat_lt, if◌then◌else◌, List, [], ◌∷◌, length, drop, refl, sym, ap, ◌∙◌, subst, arith, ltb-true, ltb-false}
use Rattle.jop_core.specs.Operations.{is_negative, number_of, signed_lt, shifted_right}
use Rattle.micro_sketch.specs.Sketch.{Sketch, exec}
use Rattle.micro_sketch.specs.Row.{Effect}
use Rattle.micro_sketch.specs.Rows.{Makes, makes_raw, entered, outcome_of, outcome}
use Rattle.micro_sketch.specs.Operand.{leaves}
use Rattle.micro_sketch.specs.StackOps.{third, fourth}
use Rattle.micro_sketch.specs.LongOps.{LongOp, Ladd, Lsub, Lneg, Land, Lor, Lxor, I2l, L2i, Lcmp, long_code, long_effect, long_of, with_long, HasTwoLongs}
use Rattle.micro_sketch.proofs.PlainRows.Shaping.{Row, computes, comes_to, opened, opens}

abbrev Shown : LongOp → Sketch → Type 0
Shown op x = Row (long_code op) (long_effect op) x

-- a row over two longs, which comes to two words
two_longs : (code : ℕ) (f : Sketch → Effect) (x : Sketch) (k : ℕ) (raw : Effect) → HasTwoLongs (entered code x) → 4 ≤ length x.under → let z = opened code x in outcome_of (exec (suc k) [] z) ≡ outcome true raw z → raw ≡ f z → Row code f x
two_longs code f x k raw ready four h same =
    let P : Sketch → Type 0 = λ z. Makes (f z) z in
    let z = opened code x in
    subst P (sym (opens code x four)) (makes_raw k [] raw (f z) z true h refl same)

abbrev pub pair : Sketch → (low high : ℕ) → List ℕ → Effect
pair x low high rest = leaves (low ∷ high ∷ rest) x

pub same_pair : (x : Sketch) (low high v : ℕ) (rest : List ℕ) → low ≡ v % 2 ^ 32 → high ≡ v / 2 ^ 32 → pair x low high rest ≡ leaves (with_long v rest) x
same_pair x low high v rest e f = ap (λ a. pair x a high rest) e ∙ ap (λ a. pair x (v % 2 ^ 32) a rest) f

-- The sum, the difference and the negative of longs, by words.

abbrev carried : (low_sum low : ℕ) → ℕ
carried low_sum low = number_of (nat_lt low_sum low)

sum_low : (l1 h1 l2 h2 : ℕ) → (l1 + l2) % 2 ^ 32 ≡ (long_of h1 l1 + long_of h2 l2) % 2 ^ 64 % 2 ^ 32
sum_low l1 h1 l2 h2 = omega arith

sum_high : (l1 h1 l2 h2 : ℕ) → l1 < 2 ^ 32 → l2 < 2 ^ 32 → let s = (l1 + l2) % 2 ^ 32 in ((h1 + h2) % 2 ^ 32 + carried s l2) % 2 ^ 32 ≡ (long_of h1 l1 + long_of h2 l2) % 2 ^ 64 / 2 ^ 32
sum_high l1 h1 l2 h2 a b = by (nat_lt s l2) refl
  where
    s : ℕ
    s = (l1 + l2) % 2 ^ 32

    by : (c : Bool) → nat_lt s l2 ≡ c → ((h1 + h2) % 2 ^ 32 + number_of c) % 2 ^ 32 ≡ (long_of h1 l1 + long_of h2 l2) % 2 ^ 64 / 2 ^ 32
    by true e = let l : s < l2 = ltb-true s l2 e in omega arith
    by false e = let l : l2 ≤ s = ltb-false s l2 e in omega arith

less_low : (l1 h1 l2 h2 : ℕ) → l1 < 2 ^ 32 → l2 < 2 ^ 32 → h2 < 2 ^ 32 → (l1 + (2 ^ 32 - l2)) % 2 ^ 32 ≡ (long_of h1 l1 + (2 ^ 64 - long_of h2 l2)) % 2 ^ 64 % 2 ^ 32
less_low l1 h1 l2 h2 a b c = omega arith

less_high : (l1 h1 l2 h2 : ℕ) → l1 < 2 ^ 32 → l2 < 2 ^ 32 → h1 < 2 ^ 32 → h2 < 2 ^ 32
    → ((h1 + (2 ^ 32 - h2)) % 2 ^ 32 + (2 ^ 32 - number_of (nat_lt l1 l2))) % 2 ^ 32 ≡ (long_of h1 l1 + (2 ^ 64 - long_of h2 l2)) % 2 ^ 64 / 2 ^ 32
less_high l1 h1 l2 h2 a b c d = by (nat_lt l1 l2) refl
  where
    by : (t : Bool) → nat_lt l1 l2 ≡ t → ((h1 + (2 ^ 32 - h2)) % 2 ^ 32 + (2 ^ 32 - number_of t)) % 2 ^ 32 ≡ (long_of h1 l1 + (2 ^ 64 - long_of h2 l2)) % 2 ^ 64 / 2 ^ 32
    by true e = let l : l1 < l2 = ltb-true l1 l2 e in omega arith
    by false e = let l : l2 ≤ l1 = ltb-false l1 l2 e in omega arith

pub ladd : (x : Sketch) → HasTwoLongs (entered 97 x) → 4 ≤ length x.under → Shown Ladd x
ladd x h four =
    let z = opened 97 x in
    let s = (third z + z.top) % 2 ^ 32 in
    two_longs 97 (long_effect Ladd) x 15 (pair z s (((fourth z + z.next) % 2 ^ 32 + carried s z.top) % 2 ^ 32) (long_rest z)) h four refl
    (same_pair z s (((fourth z + z.next) % 2 ^ 32 + carried s z.top) % 2 ^ 32) ((long_of (fourth z) (third z) + long_of z.next z.top) % 2 ^ 64) (long_rest z)
    (sum_low (third z) (fourth z) z.top z.next) (sum_high (third z) (fourth z) z.top z.next h.lower_low h.low))
  where
    long_rest : Sketch → List ℕ
    long_rest z = drop 2 z.under

pub lsub : (x : Sketch) → HasTwoLongs (entered 101 x) → 4 ≤ length x.under → Shown Lsub x
lsub x h four =
    let z = opened 101 x in
    let low = (third z + (2 ^ 32 - z.top)) % 2 ^ 32 in
    let high = ((fourth z + (2 ^ 32 - z.next)) % 2 ^ 32 + (2 ^ 32 - number_of (nat_lt (third z) z.top))) % 2 ^ 32 in
    two_longs 101 (long_effect Lsub) x 13 (pair z low high (drop 2 z.under)) h four refl
    (same_pair z low high ((long_of (fourth z) (third z) + (2 ^ 64 - long_of z.next z.top)) % 2 ^ 64) (drop 2 z.under)
    (less_low (third z) (fourth z) z.top z.next h.lower_low h.low h.high) (less_high (third z) (fourth z) z.top z.next h.lower_low h.low h.lower_high h.high))

pub lneg : (x : Sketch) → x.top < 2 ^ 32 → x.next < 2 ^ 32 → Shown Lneg x
lneg x l h =
    let z = entered 117 x in
    let low = (0 + (2 ^ 32 - z.top)) % 2 ^ 32 in
    let high = ((0 + (2 ^ 32 - z.next)) % 2 ^ 32 + (2 ^ 32 - number_of (nat_lt 0 z.top))) % 2 ^ 32 in
    let v = long_of z.next z.top in
    let none : long_of 0 0 + (2 ^ 64 - v) ≡ 2 ^ 64 - v = omega arith in
    let from_zero : (long_of 0 0 + (2 ^ 64 - v)) % 2 ^ 64 ≡ (2 ^ 64 - v) % 2 ^ 64 = ap (λ n. n % 2 ^ 64) none in
    comes_to 117 (long_effect Lneg) x 11 [] (pair z low high z.under) true refl refl
    (same_pair z low high ((2 ^ 64 - v) % 2 ^ 64) z.under
    (less_low 0 0 z.top z.next (omega arith) l h ∙ ap (λ n. n % 2 ^ 32) from_zero) (less_high 0 0 z.top z.next (omega arith) l (omega arith) h ∙ ap (λ n. n / 2 ^ 32) from_zero))

pub sign_word : (n : ℕ) → n < 2 ^ 32 → shifted_right n 31 ≡ (if is_negative n then 2 ^ 32 - 1 else 0)
sign_word n h = by (is_negative n) refl
  where
    by : (b : Bool) → nat_lt (2 ^ 31 - 1) n ≡ b → (if b then 2 ^ 32 - 1 - (2 ^ 32 - 1 - n) / 2 ^ 31 else n / 2 ^ 31) ≡ (if b then 2 ^ 32 - 1 else 0)
    by true e = omega (arith, ltb-true (2 ^ 31 - 1) n e, h)
    by false e = omega (arith, ltb-false (2 ^ 31 - 1) n e, h)

pub i2l : (x : Sketch) → x.top < 2 ^ 32 → Shown I2l x
i2l x h =
    let z = entered 133 x in
    let raw = λ (high : ℕ). leaves (z.top ∷ high ∷ z.next ∷ z.under) z in
    comes_to 133 (long_effect I2l) x 4 [] (raw (shifted_right z.top 31)) true refl refl (ap raw (sign_word x.top h))

-- The comparison of longs, from those of their words.

-- what the row makes of the comparisons of the high words, upper less than lower and lower less than upper, and of the low ones
abbrev compared : (a b c d : Bool) → ℕ
compared a b c d =
    let high = (number_of a + (2 ^ 32 - number_of b)) % 2 ^ 32 in
    let t = ((high + high) % 2 ^ 32 + (number_of c + (2 ^ 32 - number_of d)) % 2 ^ 32) % 2 ^ 32 in
    (number_of (signed_lt 0 t) + (2 ^ 32 - number_of (signed_lt t 0))) % 2 ^ 32

abbrev ordered : (v w : ℕ) → ℕ
ordered v w = if nat_lt v w then 2 ^ 32 - 1 else if nat_lt w v then 1 else 0

ordered_less : (v w : ℕ) → v < w → ordered v w ≡ 2 ^ 32 - 1
ordered_less v w l = by (nat_lt v w) refl
  where
    by : (p : Bool) → nat_lt v w ≡ p → (if p then 2 ^ 32 - 1 else if nat_lt w v then 1 else 0) ≡ 2 ^ 32 - 1
    by true e = refl
    by false e = absurd (omega (arith, ltb-false v w e, l))

ordered_more : (v w : ℕ) → w < v → ordered v w ≡ 1
ordered_more v w l = by (nat_lt v w) (nat_lt w v) refl refl
  where
    by : (p q : Bool) → nat_lt v w ≡ p → nat_lt w v ≡ q → (if p then 2 ^ 32 - 1 else if q then 1 else 0) ≡ 1
    by true q e f = absurd (omega (arith, ltb-true v w e, l))
    by false true e f = refl
    by false false e f = absurd (omega (arith, ltb-false w v f, l))

ordered_same : (v w : ℕ) → v ≡ w → ordered v w ≡ 0
ordered_same v w same = by (nat_lt v w) (nat_lt w v) refl refl
  where
    by : (p q : Bool) → nat_lt v w ≡ p → nat_lt w v ≡ q → (if p then 2 ^ 32 - 1 else if q then 1 else 0) ≡ 0
    by true q e f = absurd (omega (arith, ltb-true v w e, same))
    by false true e f = absurd (omega (arith, ltb-true w v f, same))
    by false false e f = refl

high_more : (c d : Bool) → compared true false c d ≡ 1
high_more true true = refl
high_more true false = refl
high_more false true = refl
high_more false false = refl

high_less : (c d : Bool) → compared false true c d ≡ 2 ^ 32 - 1
high_less true true = refl
high_less true false = refl
high_less false true = refl
high_less false false = refl

-- with the high words moved up by 2 ^ 31, a for the lower long and b for the upper
compare : (a l1 b l2 : ℕ) → l1 < 2 ^ 32 → l2 < 2 ^ 32 → compared (nat_lt b a) (nat_lt a b) (nat_lt l2 l1) (nat_lt l1 l2) ≡ ordered (long_of a l1) (long_of b l2)
compare a l1 b l2 h k = by (nat_lt b a) (nat_lt a b) (nat_lt l2 l1) (nat_lt l1 l2) refl refl refl refl
  where
    by : (p q r s : Bool) → nat_lt b a ≡ p → nat_lt a b ≡ q → nat_lt l2 l1 ≡ r → nat_lt l1 l2 ≡ s → compared p q r s ≡ ordered (long_of a l1) (long_of b l2)
    by true true r s e f g i = absurd (omega (arith, ltb-true b a e, ltb-true a b f))
    by true false r s e f g i = high_more r s ∙ sym (ordered_more (long_of a l1) (long_of b l2) (omega (arith, ltb-true b a e, h, k)))
    by false true r s e f g i = high_less r s ∙ sym (ordered_less (long_of a l1) (long_of b l2) (omega (arith, ltb-true a b f, h, k)))
    by false false true true e f g i = absurd (omega (arith, ltb-true l2 l1 g, ltb-true l1 l2 i))
    by false false true false e f g i = sym (ordered_more (long_of a l1) (long_of b l2) (omega (arith, ltb-false b a e, ltb-false a b f, ltb-true l2 l1 g)))
    by false false false true e f g i = sym (ordered_less (long_of a l1) (long_of b l2) (omega (arith, ltb-false b a e, ltb-false a b f, ltb-true l1 l2 i)))
    by false false false false e f g i = sym (ordered_same (long_of a l1) (long_of b l2) (omega (arith, ltb-false b a e, ltb-false a b f, ltb-false l2 l1 g, ltb-false l1 l2 i)))

moved_up : (h l : ℕ) → h < 2 ^ 32 → l < 2 ^ 32 → long_of ((h + 2 ^ 31) % 2 ^ 32) l ≡ (long_of h l + 2 ^ 63) % 2 ^ 64
moved_up h l a b = omega arith

pub lcmp : (x : Sketch) → HasTwoLongs (entered 148 x) → 4 ≤ length x.under → Shown Lcmp x
lcmp x h four =
    let z = opened 148 x in
    let h1 = fourth z in let l1 = third z in let h2 = z.next in let l2 = z.top in
    let raw = compared (signed_lt h2 h1) (signed_lt h1 h2) (nat_lt l2 l1) (nat_lt l1 l2) in
    let result = λ (n : ℕ). leaves (n ∷ drop 2 z.under) z in
    two_longs 148 (long_effect Lcmp) x 28 (result raw) h four refl
    (ap result (compare ((h1 + 2 ^ 31) % 2 ^ 32) l1 ((h2 + 2 ^ 31) % 2 ^ 32) l2 h.lower_low h.low
    ∙ ap (λ v. ordered v (long_of ((h2 + 2 ^ 31) % 2 ^ 32) l2)) (moved_up h1 l1 h.lower_high h.lower_low)
    ∙ ap (λ w. ordered ((long_of h1 l1 + 2 ^ 63) % 2 ^ 64) w) (moved_up h2 l2 h.high h.low)))

pub land : (x : Sketch) → Shown Land x
land x = computes 127 (long_effect Land) x 7 refl

pub lor : (x : Sketch) → Shown Lor x
lor x = computes 129 (long_effect Lor) x 7 refl

pub lxor : (x : Sketch) → Shown Lxor x
lxor x = computes 131 (long_effect Lxor) x 7 refl

pub l2i : (x : Sketch) → Shown L2i x
l2i x = computes 136 (long_effect L2i) x 2 refl

-- The rows of opcodes that move words of the stack, and those of ints.
use Rattle.std.proofs.Common.{◌≡◌, ℕ, zero, suc, ◌+◌, ◌-◌, ◌*◌, ◌/◌, ◌%◌, ◌^◌, ◌<◌, ◌≤◌, Bool, true, false, nat_lt, if◌then◌else◌, [], ◌∷◌, length, bit_and, refl, sym, ap, ◌∙◌, subst, arith, ltb-true, ltb-false}
use Rattle.std.proofs.lemmas.Nat.{and_mask}
use Rattle.std.proofs.Math.Nat.{mul-add-mod_self_right}
use Rattle.jop_core.specs.Operations.{sign_extended8, sign_extended16, shifted_right}
use Rattle.micro_sketch.specs.Sketch.{Sketch}
use Rattle.micro_sketch.specs.Rows.{Makes, makes, entered}
use Rattle.micro_sketch.specs.Operand.{leaves}
use Rattle.micro_sketch.specs.StackOps.{StackOp, Pop, Pop2, Dup, DupX1, DupX2, Dup2, Dup2X1, Dup2X2, Swap, Iadd, Isub, Imul, Ineg, Ishl, Ishr, Iushr, Iand, Ior, Ixor, I2b, I2c, I2s, stack_code, stack_effect, stack_ready}
use Rattle.micro_sketch.proofs.PlainRows.Shaping.{Row, computes, comes_to, opened, opens}

abbrev Shown : StackOp → Sketch → Type 0
Shown op x = Row (stack_code op) (stack_effect op) x

times_minus : (n : ℕ) → n ≤ 2 ^ 32 → (n * (2 ^ 32 - 1)) % 2 ^ 32 ≡ (2 ^ 32 - n) % 2 ^ 32
times_minus zero h = refl
times_minus (suc m) h = ap (λ i. i % 2 ^ 32) (let e : suc m * (2 ^ 32 - 1) ≡ m * 2 ^ 32 + (2 ^ 32 - suc m) = omega arith in e) ∙ mul-add-mod_self_right m (2 ^ 32) (2 ^ 32 - suc m)

-- up and down again by the same number of bits brings in the sign
extended8 : (n : ℕ) → shifted_right ((n * 2 ^ 24) % 2 ^ 32) 24 ≡ sign_extended8 n
extended8 n = by (nat_lt (2 ^ 31 - 1) m) (nat_lt (n % 2 ^ 8) (2 ^ 7)) refl refl
  where
    m : ℕ
    m = (n * 2 ^ 24) % 2 ^ 32

    by : (a b : Bool) → nat_lt (2 ^ 31 - 1) m ≡ a → nat_lt (n % 2 ^ 8) (2 ^ 7) ≡ b
        → (if a then 2 ^ 32 - 1 - (2 ^ 32 - 1 - m) / 2 ^ 24 else m / 2 ^ 24) ≡ (if b then n % 2 ^ 8 else n % 2 ^ 8 + (2 ^ 32 - 2 ^ 8))
    by true true e f = omega (arith, ltb-true (2 ^ 31 - 1) m e, ltb-true (n % 2 ^ 8) (2 ^ 7) f)
    by true false e f = omega (arith, ltb-true (2 ^ 31 - 1) m e, ltb-false (n % 2 ^ 8) (2 ^ 7) f)
    by false true e f = omega (arith, ltb-false (2 ^ 31 - 1) m e, ltb-true (n % 2 ^ 8) (2 ^ 7) f)
    by false false e f = omega (arith, ltb-false (2 ^ 31 - 1) m e, ltb-false (n % 2 ^ 8) (2 ^ 7) f)

extended16 : (n : ℕ) → shifted_right ((n * 2 ^ 16) % 2 ^ 32) 16 ≡ sign_extended16 n
extended16 n = by (nat_lt (2 ^ 31 - 1) m) (nat_lt (n % 2 ^ 16) (2 ^ 15)) refl refl
  where
    m : ℕ
    m = (n * 2 ^ 16) % 2 ^ 32

    by : (a b : Bool) → nat_lt (2 ^ 31 - 1) m ≡ a → nat_lt (n % 2 ^ 16) (2 ^ 15) ≡ b
        → (if a then 2 ^ 32 - 1 - (2 ^ 32 - 1 - m) / 2 ^ 16 else m / 2 ^ 16) ≡ (if b then n % 2 ^ 16 else n % 2 ^ 16 + (2 ^ 32 - 2 ^ 16))
    by true true e f = omega (arith, ltb-true (2 ^ 31 - 1) m e, ltb-true (n % 2 ^ 16) (2 ^ 15) f)
    by true false e f = omega (arith, ltb-true (2 ^ 31 - 1) m e, ltb-false (n % 2 ^ 16) (2 ^ 15) f)
    by false true e f = omega (arith, ltb-false (2 ^ 31 - 1) m e, ltb-true (n % 2 ^ 16) (2 ^ 15) f)
    by false false e f = omega (arith, ltb-false (2 ^ 31 - 1) m e, ltb-false (n % 2 ^ 16) (2 ^ 15) f)

ineg : (x : Sketch) → x.top < 2 ^ 32 → Shown Ineg x
ineg x word =
    let z = entered 116 x in
    let raw = λ (k : ℕ). leaves (k ∷ z.next ∷ z.under) z in
    comes_to 116 (stack_effect Ineg) x 1 [] (raw ((z.top * (2 ^ 32 - 1)) % 2 ^ 32)) true refl refl (ap raw (times_minus x.top (omega (arith, word))))

i2b : (x : Sketch) → Shown I2b x
i2b x =
    let z = entered 145 x in
    let raw = λ (k : ℕ). leaves (k ∷ z.next ∷ z.under) z in
    comes_to 145 (stack_effect I2b) x 3 [] (raw (shifted_right ((z.top * 2 ^ 24) % 2 ^ 32) 24)) true refl refl (ap raw (extended8 x.top))

i2s : (x : Sketch) → Shown I2s x
i2s x =
    let z = entered 147 x in
    let raw = λ (k : ℕ). leaves (k ∷ z.next ∷ z.under) z in
    comes_to 147 (stack_effect I2s) x 3 [] (raw (shifted_right ((z.top * 2 ^ 16) % 2 ^ 32) 16)) true refl refl (ap raw (extended16 x.top))

i2c : (x : Sketch) → Shown I2c x
i2c x =
    let z = entered 146 x in
    let raw = λ (k : ℕ). leaves (k ∷ z.next ∷ z.under) z in
    comes_to 146 (stack_effect I2c) x 1 [] (raw (bit_and z.top (2 ^ 16 - 1))) true refl refl (ap raw (and_mask x.top 16))

-- with a fourth word below B in sight
dup2_x2 : (x : Sketch) → 4 ≤ length x.under → Shown Dup2X2 x
dup2_x2 x four =
    let P : Sketch → Type 0 = λ z. Makes (stack_effect Dup2X2 z) z in
    subst P (sym (opens 94 x four)) (makes 9 [] (stack_effect Dup2X2 (opened 94 x)) (opened 94 x) true refl refl)

pub stack_row : (op : StackOp) (x : Sketch) → stack_ready op x → Shown op x
stack_row Pop x ready = computes 87 (stack_effect Pop) x 0 refl
stack_row Pop2 x ready = computes 88 (stack_effect Pop2) x 1 refl
stack_row Dup x ready = computes 89 (stack_effect Dup) x 0 refl
stack_row DupX1 x ready = computes 90 (stack_effect DupX1) x 4 refl
stack_row DupX2 x ready = computes 91 (stack_effect DupX2) x 6 refl
stack_row Dup2 x ready = computes 92 (stack_effect Dup2) x 5 refl
stack_row Dup2X1 x ready = computes 93 (stack_effect Dup2X1) x 7 refl
stack_row Dup2X2 x ready = dup2_x2 x ready
stack_row Swap x ready = computes 95 (stack_effect Swap) x 3 refl
stack_row Iadd x ready = computes 96 (stack_effect Iadd) x 0 refl
stack_row Isub x ready = computes 100 (stack_effect Isub) x 0 refl
stack_row Imul x ready = computes 104 (stack_effect Imul) x 0 refl
stack_row Ineg x ready = ineg x ready
stack_row Ishl x ready = computes 120 (stack_effect Ishl) x 0 refl
stack_row Ishr x ready = computes 122 (stack_effect Ishr) x 0 refl
stack_row Iushr x ready = computes 124 (stack_effect Iushr) x 0 refl
stack_row Iand x ready = computes 126 (stack_effect Iand) x 0 refl
stack_row Ior x ready = computes 128 (stack_effect Ior) x 0 refl
stack_row Ixor x ready = computes 130 (stack_effect Ixor) x 0 refl
stack_row I2b x ready = i2b x
stack_row I2c x ready = i2c x
stack_row I2s x ready = i2s x

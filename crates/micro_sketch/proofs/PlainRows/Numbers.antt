-- The rows of opcodes that push a number.
use Rattle.std.proofs.Common.{◌≡◌, ℕ, ◌+◌, ◌*◌, ◌%◌, ◌^◌, ◌<◌, true, [], slice_index, refl, ap, ◌∙◌, arith}
use Rattle.jop_core.specs.Operations.{sign_extended8, sign_extended16}
use Rattle.micro_sketch.specs.Sketch.{Sketch}
use Rattle.micro_sketch.specs.Rows.{entered}
use Rattle.micro_sketch.specs.Operand.{behind, pushes, pushes_two, byte_operand, two_byte_operand}
use Rattle.micro_sketch.specs.NumberOps.{NumberOp, Nop, AconstNull, IconstM1, Iconst0, Iconst1, Iconst2, Iconst3, Iconst4, Iconst5, Lconst0, Lconst1, Bipush, Sipush, Ldc, LdcW, Ldc2W, number_code, number_effect}
use Rattle.micro_sketch.proofs.PlainRows.Shaping.{Row, computes, comes_to, byte_small, two_bytes_small, one_taken, two_taken, one_taken_is, two_taken_is}

-- the place in the pool, as it is computed
abbrev raw_place : Sketch → (operand : ℕ) → ℕ
raw_place x operand = ((operand + operand) % 2 ^ 32 + slice_index x.low 24) % 2 ^ 32

place_is : (b pool : ℕ) → b < 2 ^ 16 → ((b + b) % 2 ^ 32 + pool) % 2 ^ 32 ≡ (pool + 2 * b) % 2 ^ 32
place_is b pool h = omega arith

abbrev Shown : NumberOp → Sketch → Type 0
Shown op x = Row (number_code op) (number_effect op) x

bipush : (x : Sketch) → Shown Bipush x
bipush x =
    let z = entered 16 x in
    let raw = λ (operand : ℕ). behind 1 z (pushes (sign_extended8 operand) z) in
    comes_to 16 (number_effect Bipush) x 1 [] (raw (one_taken z)) true refl refl (ap raw (one_taken_is z))

sipush : (x : Sketch) → Shown Sipush x
sipush x =
    let z = entered 17 x in
    let raw = λ (operand : ℕ). behind 2 z (pushes (sign_extended16 operand) z) in
    comes_to 17 (number_effect Sipush) x 2 [] (raw (two_taken z)) true refl refl (ap raw (two_taken_is z))

ldc : (x : Sketch) → Shown Ldc x
ldc x =
    let z = entered 18 x in
    let at = λ (place : ℕ). behind 1 z (pushes (slice_index z.memory place) z) in
    comes_to 18 (number_effect Ldc) x 8 [] (at (raw_place z (one_taken z))) true refl refl
    (ap (λ (operand : ℕ). at (raw_place z operand)) (one_taken_is z) ∙ ap at (place_is (byte_operand z) (slice_index z.low 24) (omega (arith, byte_small z))))

ldc_w : (x : Sketch) → Shown LdcW x
ldc_w x =
    let z = entered 19 x in
    let at = λ (place : ℕ). behind 2 z (pushes (slice_index z.memory place) z) in
    comes_to 19 (number_effect LdcW) x 9 [] (at (raw_place z (two_taken z))) true refl refl
    (ap (λ (operand : ℕ). at (raw_place z operand)) (two_taken_is z) ∙ ap at (place_is (two_byte_operand z) (slice_index z.low 24) (two_bytes_small z)))

ldc2_w : (x : Sketch) → Shown Ldc2W x
ldc2_w x =
    let z = entered 20 x in
    let at = λ (place : ℕ). behind 2 z (pushes_two (slice_index z.memory ((place + 1) % 2 ^ 32)) (slice_index z.memory place) z) in
    comes_to 20 (number_effect Ldc2W) x 17 [] (at (raw_place z (two_taken z))) true refl refl
    (ap (λ (operand : ℕ). at (raw_place z operand)) (two_taken_is z) ∙ ap at (place_is (two_byte_operand z) (slice_index z.low 24) (two_bytes_small z)))

pub number_row : (op : NumberOp) (x : Sketch) → Shown op x
number_row Nop x = computes 0 (number_effect Nop) x 0 refl
number_row AconstNull x = computes 1 (number_effect AconstNull) x 0 refl
number_row IconstM1 x = computes 2 (number_effect IconstM1) x 0 refl
number_row Iconst0 x = computes 3 (number_effect Iconst0) x 0 refl
number_row Iconst1 x = computes 4 (number_effect Iconst1) x 0 refl
number_row Iconst2 x = computes 5 (number_effect Iconst2) x 0 refl
number_row Iconst3 x = computes 6 (number_effect Iconst3) x 0 refl
number_row Iconst4 x = computes 7 (number_effect Iconst4) x 0 refl
number_row Iconst5 x = computes 8 (number_effect Iconst5) x 0 refl
number_row Lconst0 x = computes 9 (number_effect Lconst0) x 1 refl
number_row Lconst1 x = computes 10 (number_effect Lconst1) x 1 refl
number_row Bipush x = bipush x
number_row Sipush x = sipush x
number_row Ldc x = ldc x
number_row LdcW x = ldc_w x
number_row Ldc2W x = ldc2_w x

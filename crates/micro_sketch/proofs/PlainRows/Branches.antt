-- The rows of opcodes that jump.
use Rattle.std.proofs.Common.{◌≡◌, ℕ, ◌+◌, ◌-◌, ◌%◌, ◌^◌, true, if◌then◌else◌, [], ◌∷◌, List, refl, ap, ◌∙◌, arith}
use Rattle.jop_core.specs.Operations.{sign_extended16, holds}
use Rattle.micro_sketch.specs.Sketch.{Sketch}
use Rattle.micro_sketch.specs.Row.{Effect, unchanged}
use Rattle.micro_sketch.specs.Rows.{entered}
use Rattle.micro_sketch.specs.Operand.{past, two_byte_operand, four_byte_operand, jump_place}
use Rattle.micro_sketch.specs.BranchOps.{BranchOp, Ifeq, Ifne, Iflt, Ifge, Ifgt, Ifle, IfIcmpeq, IfIcmpne, IfIcmplt, IfIcmpge, IfIcmpgt, IfIcmple, IfAcmpeq, IfAcmpne, Goto, Ifnull, Ifnonnull, GotoW, branch_code, branch_effect}
use Rattle.micro_sketch.proofs.PlainRows.Shaping.{Row, comes_to, two_taken, two_taken_is, four_taken, four_taken_is}

abbrev Shown : BranchOp → Sketch → Type 0
Shown op x = Row (branch_code op) (branch_effect op) x

-- a jump from the place behind two bytes
abbrev jump_behind : Sketch → (offset : ℕ) → ℕ
jump_behind x offset = ((past 2 x).jpc + (2 ^ 16 - 3) + sign_extended16 offset % 2 ^ 16) % 2 ^ 16

behind_is : (j t : ℕ) → (((j + 1) % 2 ^ 16 + 1) % 2 ^ 16 + (2 ^ 16 - 3) + t) % 2 ^ 16 ≡ (j + (2 ^ 16 - 1) + t) % 2 ^ 16
behind_is j t = omega arith

jump_is : (x : Sketch) → jump_behind x (two_taken x) ≡ jump_place x
jump_is x = ap (λ (operand : ℕ). jump_behind x operand) (two_taken_is x) ∙ behind_is x.jpc (sign_extended16 (two_byte_operand x) % 2 ^ 16)

-- a conditional branch
abbrev raw_lands : (op : ℕ) → Sketch → (place : ℕ) → ℕ
raw_lands op x place = if holds op x.next x.top then place else (past 2 x).jpc

abbrev after : Sketch → List ℕ → (place : ℕ) → Effect
after x words place = record (unchanged x) { words = words; jpc = place }

goto : (x : Sketch) → Shown Goto x
goto x =
    let z = entered 167 x in
    let raw = λ (place : ℕ). let f : Effect = record (unchanged z) { jpc = place } in f in
    comes_to 167 (branch_effect Goto) x 3 [] (raw (jump_behind z (two_taken z))) true refl refl (ap raw (jump_is z))

far_is : (j t : ℕ) → ((j + (2 ^ 32 - 1)) % 2 ^ 32 + t) % 2 ^ 32 % 2 ^ 16 ≡ (j + (2 ^ 16 - 1) + t) % 2 ^ 16
far_is j t = omega arith

goto_w : (x : Sketch) → Shown GotoW x
goto_w x =
    let z = entered 200 x in
    let raw = λ (operand : ℕ). let f : Effect = record (unchanged z) { jpc = ((z.jpc + (2 ^ 32 - 1)) % 2 ^ 32 + operand) % 2 ^ 32 % 2 ^ 16 } in f in
    comes_to 200 (branch_effect GotoW) x 9 [] (raw (four_taken z)) true refl refl
    (ap raw (four_taken_is z) ∙ ap (λ (place : ℕ). let f : Effect = record (unchanged z) { jpc = place } in f) (far_is z.jpc (four_byte_operand z)))

pub branch_row : (op : BranchOp) (x : Sketch) → Shown op x
branch_row Ifeq x = let z = entered 153 x in comes_to 153 (branch_effect Ifeq) x 3 [] (after z (z.next ∷ z.under) (raw_lands 153 z (jump_behind z (two_taken z)))) true refl refl (ap (λ p. after z (z.next ∷ z.under) (raw_lands 153 z p)) (jump_is z))
branch_row Ifne x = let z = entered 154 x in comes_to 154 (branch_effect Ifne) x 3 [] (after z (z.next ∷ z.under) (raw_lands 154 z (jump_behind z (two_taken z)))) true refl refl (ap (λ p. after z (z.next ∷ z.under) (raw_lands 154 z p)) (jump_is z))
branch_row Iflt x = let z = entered 155 x in comes_to 155 (branch_effect Iflt) x 3 [] (after z (z.next ∷ z.under) (raw_lands 155 z (jump_behind z (two_taken z)))) true refl refl (ap (λ p. after z (z.next ∷ z.under) (raw_lands 155 z p)) (jump_is z))
branch_row Ifge x = let z = entered 156 x in comes_to 156 (branch_effect Ifge) x 3 [] (after z (z.next ∷ z.under) (raw_lands 156 z (jump_behind z (two_taken z)))) true refl refl (ap (λ p. after z (z.next ∷ z.under) (raw_lands 156 z p)) (jump_is z))
branch_row Ifgt x = let z = entered 157 x in comes_to 157 (branch_effect Ifgt) x 3 [] (after z (z.next ∷ z.under) (raw_lands 157 z (jump_behind z (two_taken z)))) true refl refl (ap (λ p. after z (z.next ∷ z.under) (raw_lands 157 z p)) (jump_is z))
branch_row Ifle x = let z = entered 158 x in comes_to 158 (branch_effect Ifle) x 3 [] (after z (z.next ∷ z.under) (raw_lands 158 z (jump_behind z (two_taken z)))) true refl refl (ap (λ p. after z (z.next ∷ z.under) (raw_lands 158 z p)) (jump_is z))
branch_row IfIcmpeq x = let z = entered 159 x in comes_to 159 (branch_effect IfIcmpeq) x 3 [] (after z z.under (raw_lands 159 z (jump_behind z (two_taken z)))) true refl refl (ap (λ p. after z z.under (raw_lands 159 z p)) (jump_is z))
branch_row IfIcmpne x = let z = entered 160 x in comes_to 160 (branch_effect IfIcmpne) x 3 [] (after z z.under (raw_lands 160 z (jump_behind z (two_taken z)))) true refl refl (ap (λ p. after z z.under (raw_lands 160 z p)) (jump_is z))
branch_row IfIcmplt x = let z = entered 161 x in comes_to 161 (branch_effect IfIcmplt) x 3 [] (after z z.under (raw_lands 161 z (jump_behind z (two_taken z)))) true refl refl (ap (λ p. after z z.under (raw_lands 161 z p)) (jump_is z))
branch_row IfIcmpge x = let z = entered 162 x in comes_to 162 (branch_effect IfIcmpge) x 3 [] (after z z.under (raw_lands 162 z (jump_behind z (two_taken z)))) true refl refl (ap (λ p. after z z.under (raw_lands 162 z p)) (jump_is z))
branch_row IfIcmpgt x = let z = entered 163 x in comes_to 163 (branch_effect IfIcmpgt) x 3 [] (after z z.under (raw_lands 163 z (jump_behind z (two_taken z)))) true refl refl (ap (λ p. after z z.under (raw_lands 163 z p)) (jump_is z))
branch_row IfIcmple x = let z = entered 164 x in comes_to 164 (branch_effect IfIcmple) x 3 [] (after z z.under (raw_lands 164 z (jump_behind z (two_taken z)))) true refl refl (ap (λ p. after z z.under (raw_lands 164 z p)) (jump_is z))
branch_row IfAcmpeq x = let z = entered 165 x in comes_to 165 (branch_effect IfAcmpeq) x 3 [] (after z z.under (raw_lands 165 z (jump_behind z (two_taken z)))) true refl refl (ap (λ p. after z z.under (raw_lands 165 z p)) (jump_is z))
branch_row IfAcmpne x = let z = entered 166 x in comes_to 166 (branch_effect IfAcmpne) x 3 [] (after z z.under (raw_lands 166 z (jump_behind z (two_taken z)))) true refl refl (ap (λ p. after z z.under (raw_lands 166 z p)) (jump_is z))
branch_row Goto x = goto x
branch_row Ifnull x = let z = entered 198 x in comes_to 198 (branch_effect Ifnull) x 3 [] (after z (z.next ∷ z.under) (raw_lands 198 z (jump_behind z (two_taken z)))) true refl refl (ap (λ p. after z (z.next ∷ z.under) (raw_lands 198 z p)) (jump_is z))
branch_row Ifnonnull x = let z = entered 199 x in comes_to 199 (branch_effect Ifnonnull) x 3 [] (after z (z.next ∷ z.under) (raw_lands 199 z (jump_behind z (two_taken z)))) true refl refl (ap (λ p. after z (z.next ∷ z.under) (raw_lands 199 z p)) (jump_is z))
branch_row GotoW x = goto_w x

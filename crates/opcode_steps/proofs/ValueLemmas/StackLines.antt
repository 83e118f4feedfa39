-- The lines of moves on the operand stack.
use Rattle.std.proofs.Common.{ℕ, List, ◌∷◌, drop, refl, arith}
use Rattle.std.specs.Prelude.{slice_index}
use Rattle.opcodes.specs.Row as opcodes
use Rattle.micro_sketch.specs.Rows.{head_of, tail_of}
use Rattle.micro_sketch.specs.StackOps.{Pop, Pop2, Dup, DupX1, DupX2, Dup2, Dup2X1, Dup2X2}
use Rattle.micro_sketch.specs.StackOps as stack
use Rattle.bytecode_model.specs.Rows.{Zero, One, Two, Drop, Copy, Swap}
use Rattle.bytecode_model.specs.Table.{row_of}
use Rattle.opcode_steps.proofs.ValueLemmas.Scenes.{Laws, Line}
use Rattle.opcode_steps.proofs.ValueLemmas.Shapes.{shuffled}

-- what is made of the two top words and those below
abbrev of_two : (ℕ → ℕ → List ℕ → List ℕ) → List ℕ → List ℕ
of_two f ws = f (head_of ws) (head_of (tail_of ws)) (tail_of (tail_of ws))

pub pop : Laws → Line 87
unfolding opcodes.row_of row_of
pop laws = shuffled laws 87 Pop Drop One Zero (λ ws. tail_of ws) refl refl (λ code pc o. refl) (λ x few. tt) (λ x. refl) (λ a ws. refl)

pub pop2 : Laws → Line 88
unfolding opcodes.row_of row_of
pop2 laws = shuffled laws 88 Pop2 Drop Two Zero (λ ws. tail_of (tail_of ws)) refl refl (λ code pc o. refl) (λ x few. tt) (λ x. refl) (λ a b ws. refl)

pub dup : Laws → Line 89
unfolding opcodes.row_of row_of
dup laws = shuffled laws 89 Dup Copy One Zero (λ ws. head_of ws ∷ ws) refl refl (λ code pc o. refl) (λ x few. tt) (λ x. refl) (λ a ws. refl)

pub dup_x1 : Laws → Line 90
unfolding opcodes.row_of row_of
dup_x1 laws = shuffled laws 90 DupX1 Copy One One (of_two (λ a b us. a ∷ b ∷ a ∷ us)) refl refl (λ code pc o. refl) (λ x few. tt) (λ x. refl) (λ a b ws. refl)

pub dup_x2 : Laws → Line 91
unfolding opcodes.row_of row_of
dup_x2 laws = shuffled laws 91 DupX2 Copy One Two (of_two (λ a b us. a ∷ b ∷ slice_index us 0 ∷ a ∷ drop 1 us)) refl refl (λ code pc o. refl) (λ x few. tt) (λ x. refl) (λ a b c ws. refl)

pub dup2 : Laws → Line 92
unfolding opcodes.row_of row_of
dup2 laws = shuffled laws 92 Dup2 Copy Two Zero (of_two (λ a b us. a ∷ b ∷ a ∷ b ∷ us)) refl refl (λ code pc o. refl) (λ x few. tt) (λ x. refl) (λ a b ws. refl)

pub dup2_x1 : Laws → Line 93
unfolding opcodes.row_of row_of
dup2_x1 laws = shuffled laws 93 Dup2X1 Copy Two One (of_two (λ a b us. a ∷ b ∷ slice_index us 0 ∷ a ∷ b ∷ drop 1 us)) refl refl (λ code pc o. refl) (λ x few. tt) (λ x. refl) (λ a b c ws. refl)

pub dup2_x2 : Laws → Line 94
unfolding opcodes.row_of row_of
dup2_x2 laws = shuffled laws 94 Dup2X2 Copy Two Two (of_two (λ a b us. a ∷ b ∷ slice_index us 0 ∷ slice_index us 1 ∷ a ∷ b ∷ drop 2 us)) refl refl (λ code pc o. refl) (λ x few. omega (arith, few)) (λ x. refl) (λ a b c d ws. refl)

pub swap : Laws → Line 95
unfolding opcodes.row_of row_of
swap laws = shuffled laws 95 stack.Swap Swap One One (of_two (λ a b us. b ∷ a ∷ us)) refl refl (λ code pc o. refl) (λ x few. tt) (λ x. refl) (λ a b ws. refl)

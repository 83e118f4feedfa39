-- More than two words ask nothing of the program itself.
use Rattle.std.proofs.Common.{◌≡◌, ℕ, ◌≤◌, List, [], ◌∷◌, length, None, refl, arith}
use Rattle.std.specs.Borrow.{Bor}
use Rattle.command_line.specs.Command.{texts}
use Rattle.jop.specs.Help.{question_of}

pub many_ask_nothing : (words : List (Bor (List ℕ))) → 3 ≤ length words → None ≡ question_of (texts words)
many_ask_nothing [] h = absurd (omega (arith, h))
many_ask_nothing (first ∷ []) h = absurd (omega (arith, h))
many_ask_nothing (first ∷ second ∷ []) h = absurd (omega (arith, h))
many_ask_nothing (first ∷ second ∷ third ∷ words) h = refl

use Rattle.std.proofs.Common.{List, ℕ, length, refl}
use Rattle.image_facts.proofs.Pieces.{differ_ahead, differ_in, lie_in, lie_through}
use Rattle.image_facts.proofs.words_lie.Goals as goal

pub returns-clause-pieces : goal.returns-clause-pieces
returns-clause-pieces c = λ pieces i words e. lie_in (λ (piece : List ℕ). piece) length (λ piece. refl) pieces i words e

pub returns-clause-replaced : goal.returns-clause-replaced
returns-clause-replaced c = λ pieces others i words instead e r. differ_in (λ (piece : List ℕ). piece) length (λ piece. refl) pieces others i words instead e r

pub returns-clause-through : goal.returns-clause-through
returns-clause-through c = lie_through

pub returns-clause-ahead : goal.returns-clause-ahead
returns-clause-ahead c = differ_ahead

-- The text of a word.
use Rattle.std.proofs.Common.{◌≡◌, ℕ, zero, suc, ◌<◌, ◌≤◌, List, [], ◌∷◌, length, get_or, refl, arith}
use Rattle.std.specs.Borrow.{Bor}
use Rattle.command_line.specs.Command.{texts}
use Rattle.endings.specs.Line.{text_of_word}

pub text_at-texts : (words : List (Bor (List ℕ))) (k : ℕ) (d : Bor (List ℕ)) → k < length words → text_of_word (texts words) k ≡ (get_or words k d).now
text_at-texts [] k d within = absurd (omega (arith, within))
text_at-texts (w ∷ words) zero d within = refl
text_at-texts (w ∷ words) (suc k) d within = text_at-texts words k d (omega (arith, within))

pub text_at-past : (words : List (Bor (List ℕ))) (k : ℕ) → length words ≤ k → text_of_word (texts words) k ≡ []
text_at-past [] k past = refl
text_at-past (w ∷ words) zero past = absurd (omega (arith, past))
text_at-past (w ∷ words) (suc k) past = text_at-past words k (omega (arith, past))

-- A text that is put in two parts.
use Rattle.std.proofs.Common.{◌≡◌, ℕ, List, ◌++◌, append_assoc, ◌∙◌, ap}

pub put_two : (old mid new a b : List ℕ) → mid ≡ old ++ a → new ≡ mid ++ b → new ≡ old ++ (a ++ b)
put_two old mid new a b first last = last ∙ (ap (λ (text : List ℕ). text ++ b) first ∙ append_assoc old a b)

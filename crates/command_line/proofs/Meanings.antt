-- What a value means, as a test and as a fact.
use Rattle.std.proofs.Common.{◌≡◌, ℕ, ◌<◌, false, List, [], ◌∷◌, length, Some, None, inl, inr, sym, ap, ◌∙◌, arith}
use Rattle.std.specs.Prelude.{◌==◌, if◌then◌else◌}
use Rattle.std.proofs.lemmas.Bool.{cases_Bool}
use Rattle.std.proofs.lemmas.Bool.Decides.{nat_tests}
use Rattle.command_line.specs.Table.{OptionValue, Nothing, AWord, ANumber, OneOf}
use Rattle.command_line.specs.Command.{meaning}
use Rattle.command_line.specs.Grammar.{Means}
use Rattle.command_line.proofs.Numbers.{number-some, number-means, one-of-some, one-of-means}
use Rattle.command_line.proofs.WordLemmas.{if_false}

some_length : (word : List ℕ) → 0 < length word → (length word == 0) ≡ false
some_length [] h = absurd (omega (arith, h))
some_length (x ∷ xs) h = grind (arith, nat_tests)

pub length_some : (word : List ℕ) → (length word == 0) ≡ false → 0 < length word
length_some [] h = absurd (cc)
length_some (x ∷ xs) h = omega arith

pub means-meaning : (value : OptionValue) (k : ℕ) (word : List ℕ) (n : ℕ) → Means value k (Some word) n → meaning value k word ≡ Some n
means-meaning Nothing k word n h = absurd h
means-meaning AWord k word n h = sym (if_false (length word == 0) None (Some k) (some_length word h.0)) ∙ ap (λ (m : ℕ). Some m) (sym h.1)
means-meaning (ANumber from to) k word n h = sym (number-some from to word n h)
means-meaning (OneOf ns) k word n h = sym (one-of-some ns k word n h)

pub meaning-means : (value : OptionValue) (k : ℕ) (word : List ℕ) (n : ℕ) → meaning value k word ≡ Some n → Means value k (Some word) n
meaning-means Nothing k word n h = absurd (cc)
meaning-means AWord k word n h = elim (cases_Bool (length word == 0)) [
  | inl e ↦
      let none : meaning AWord k word ≡ None = ap (λ b. if b then None else Some k) e in
      absurd (cc)
  | inr e ↦
      let some : meaning AWord k word ≡ Some k = ap (λ b. if b then None else Some k) e in
      (length_some word e, cc)
]
meaning-means (ANumber from to) k word n h = number-means from to word n h
meaning-means (OneOf ns) k word n h = one-of-means ns k word n h

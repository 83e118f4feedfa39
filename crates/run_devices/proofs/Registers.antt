-- A line of the same registers is the same.
use Rattle.std.proofs.Common.{◌≡◌, ℕ, List, ◌∙◌, ap, subst}
use Rattle.std.specs.declared.option.Option.{Option}
use Rattle.std.specs.declared.result.Result.{Result}
use Rattle.run_devices.specs.Put.{PutLine}
use Rattle.run_devices.specs.Lines.{registers_line}

same_line : (clock : ℕ) (m m' a a' b b' s s' v v' : List ℕ) → m ≡ m' → a ≡ a' → b ≡ b' → s ≡ s' → v ≡ v' → registers_line clock m a b s v ≡ registers_line clock m' a' b' s' v'
same_line clock m m' a a' b b' s s' v v' e f g h i =
    ap (λ x. registers_line clock x a b s v) e ∙ ap (λ x. registers_line clock m' x b s v) f ∙ ap (λ x. registers_line clock m' a' x s v) g ∙ ap (λ x. registers_line clock m' a' b' x v) h
    ∙ ap (λ x. registers_line clock m' a' b' s' x) i

pub put_same : {T E : Type 0} (old new : Option (List ℕ)) (result : Result T E) (clock : ℕ) (m m' a a' b b' s s' v v' : List ℕ) → m ≡ m' → a ≡ a' → b ≡ b' → s ≡ s' → v ≡ v'
    → PutLine old new (registers_line clock m a b s v) result → PutLine old new (registers_line clock m' a' b' s' v') result
put_same old new result clock m m' a a' b b' s s' v v' e f g h i put = subst (λ (line : List ℕ). PutLine old new line result) (same_line clock m m' a a' b b' s s' v v' e f g h i) put

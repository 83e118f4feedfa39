-- What is there.
use Rattle.std.proofs.Common.{◌≡◌, Option, Some, None, refl, sym, subst}
use Rattle.std.specs.Prelude.{IfSome, IsSomeAnd}

pub some_at : {A : Type 0} (o : Option A) (x : A) (K : A → Type 0) → o ≡ Some x → IsSomeAnd o K → K x
some_at o x K e h = subst (λ o. IsSomeAnd o K) e h

pub if_at : {A : Type 0} (o : Option A) (x : A) (K : A → Type 0) → o ≡ Some x → IfSome o K → K x
if_at o x K e h = subst (λ o. IfSome o K) e h

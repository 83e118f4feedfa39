-- What follows of tests that are joined by "and", "or" and "not".
use Rattle.std.proofs.Common.{◌≡◌, Bool, true, false, not, ◌&&◌, ◌||◌, ◌⊎◌, inl, inr, refl}
use Rattle.std.specs.Prelude.{IsTrue}

pub and_left : (a b : Bool) → (a && b) ≡ true → a ≡ true
and_left true b h = refl
and_left false b h = h

pub and_right : (a b : Bool) → (a && b) ≡ true → b ≡ true
and_right true b h = h
and_right false b h = absurd (let f : false ≡ true = h in cc)

pub either : (a b : Bool) → IsTrue (a || b) → IsTrue a ⊎ IsTrue b
either true b h = inl h
either false b h = inr h

pub not_true : (b : Bool) → not b ≡ true → b ≡ false
not_true true h = absurd (let f : false ≡ true = h in cc)
not_true false h = refl

pub not_false : (b : Bool) → not b ≡ false → b ≡ true
not_false true h = refl
not_false false h = absurd (let f : true ≡ false = h in cc)

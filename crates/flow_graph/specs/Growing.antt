-- Lists that grow.
use Rattle.std.specs.Prelude.{◌⊎◌, List, Contains}

-- the new list has the items of the old one, those of which this holds, and no others
pub record Grows {X : Type 0} (old new : List X) (Adds : X → Type 0) : Type 0 where
  pub keeps : (x : X) → Contains old x → Contains new x
  pub adds : (x : X) → Adds x → Contains new x
  pub only : (x : X) → Contains new x → Contains old x ⊎ Adds x

-- An image with the places of its parts.
use Rattle.std.specs.Prelude.{ℕ, List}

-- the words, and the places of the methods, types, pools, fields and strings by their numbers; an instance field has none
pub record Laid : Type 0 where
  pub words : List ℕ
  pub methods : List ℕ
  pub types : List ℕ
  pub pools : List ℕ
  pub fields : List ℕ
  pub strings : List ℕ

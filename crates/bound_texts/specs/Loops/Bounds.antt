-- Bounds, in the order in which they are given.
use Rattle.std.specs.Prelude.{◌≡◌, ℕ, ◌&&◌, ◌==◌, nat_eq, if◌then◌else◌, List, [], ◌∷◌, Option, Some, None}
use lib.Pointwise.{pointwise}

-- What a place of a method has at most. A loop, by its header, has so many iterations: so often its back edges are taken between two entries.
-- An instruction that makes an array has so great a length.
pub record LoopBound : Type 0 where
  pub name : List ℕ
  pub pc : ℕ
  pub bound : ℕ

-- the bound of the first that is given for the place
abbrev pub bound_in : (name : List ℕ) (pc : ℕ) → List LoopBound → Option ℕ
bound_in name pc [] = None
bound_in name pc (b ∷ bs) = if pointwise nat_eq name b.name && pc == b.pc then Some b.bound else bound_in name pc bs

-- no place has two
abbrev pub AreOfDifferentLoops : List LoopBound → Type 0
AreOfDifferentLoops [] = Unit {0}
AreOfDifferentLoops (b ∷ bs) = (bound_in b.name b.pc bs ≡ None) × AreOfDifferentLoops bs

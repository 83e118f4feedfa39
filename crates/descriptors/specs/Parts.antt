-- The parts of names of classes: JVM Specification SE 8, 4.2.1.
use Rattle.std.specs.Prelude.{◌≡◌, ◌↔◌, ℕ, List, ◌∷◌, ◌++◌, IsTrue}
use Prim.Native.Char.{code}
use Rattle.std.specs.List.{flat_map, AllByRecursion}
use Rattle.descriptors.specs.Names.{is_unqualified, is_class_name}

-- the parts, with a / before each but the first
abbrev pub parts_units : List ℕ → List (List ℕ) → List ℕ
parts_units first others = first ++ flat_map (λ part. code "/" ∷ part) others

-- the units are unqualified names with a / between each two
pub record HasParts (units : List ℕ) : Type 0 where
  pub first : List ℕ
  pub others : List (List ℕ)
  pub first_is : IsTrue (is_unqualified first)
  pub others_are : AllByRecursion (λ part. IsTrue (is_unqualified part)) others
  pub spelling : units ≡ parts_units first others

abbrev pub ClassNames : Type 0
ClassNames = (units : List ℕ) → IsTrue (is_class_name units) ↔ HasParts units

-- The classes whose objects are of a class.
use Rattle.std.specs.Prelude.{◌≡◌, ◌↔◌, ◌⊎◌, ℕ, ◌<◌, true, ◌&&◌, List, [], length, map, Contains, slice_index_or}
use Rattle.std.specs.declared.alloc.Global.{Global}
use Rattle.std.specs.declared.vec.Vec.{Vec}
use Rattle.class_pool.specs.declared.class.ClassFile.{ClassFile}
use Rattle.class_lookup.specs.Hierarchy.{is_concrete, extends}

-- a class of which there are instances, and which is the other, or has it as a superclass or a superinterface
abbrev pub IsReceiver : List ClassFile → (upper class : ℕ) → Type 0
IsReceiver cs d c = (is_concrete cs c && extends cs c d) ≡ true

abbrev pub lists_of : List (Vec ℕ Global) → List (List ℕ)
lists_of vs = map (λ v. v.items) vs

-- for each class a list of those among the first so many classes
pub record AreBelow (cs : List ClassFile) (count : ℕ) (lists : List (List ℕ)) : Type 0 where
  pub long : length lists ≡ length cs
  pub each : (d c : ℕ) → d < length cs → Contains (slice_index_or lists d []) c ↔ ((c < count) × IsReceiver cs d c)

-- the class is put into the lists of these
pub record IsPut (class : ℕ) (uppers : List ℕ) (old new : List (List ℕ)) : Type 0 where
  pub long : length new ≡ length old
  pub each : (d c : ℕ) → d < length old → Contains (slice_index_or new d []) c ↔ (Contains (slice_index_or old d []) c ⊎ ((c ≡ class) × Contains uppers d))

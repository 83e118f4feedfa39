-- An order of classes in which each stands behind its direct superclass and its direct superinterfaces.
use Rattle.std.specs.Prelude.{ℕ, ◌<◌, List, length, take, slice_index, IsTrue}
use Rattle.class_pool.specs.declared.class.ClassFile.{ClassFile}
use Rattle.class_lookup.specs.Hierarchy.{direct_supertypes, is_among}
use Rattle.number_sets.specs.Numbers.{AreBelow, HasAll}

pub record IsTopDown (cs : List ClassFile) (order : List ℕ) : Type 0 where
  pub ordered : (i d : ℕ) → i < length order → IsTrue (is_among (direct_supertypes cs (slice_index order i)) d) → IsTrue (is_among (take i order) d)
  pub below : AreBelow (length cs) order
  pub all : HasAll (length cs) order

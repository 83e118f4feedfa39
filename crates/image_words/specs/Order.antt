-- Classes in an order in which each stands behind its superclass.
use Rattle.std.specs.Prelude.{◌≡◌, ℕ, ◌<◌, true, List, length, take, Some, slice_index}
use Rattle.class_pool.specs.declared.class.ClassFile.{ClassFile}
use Rattle.class_lookup.specs.Hierarchy.{superclass, is_among}

pub record IsSuperclassFirst (cs : List ClassFile) (order : List ℕ) : Type 0 where
  pub ordered : (i d : ℕ) → i < length order → superclass cs (slice_index order i) ≡ Some d → is_among (take i order) d ≡ true
  pub below : (c : ℕ) → is_among order c ≡ true → c < length cs
  pub all : (c : ℕ) → c < length cs → is_among order c ≡ true

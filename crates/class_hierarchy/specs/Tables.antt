-- What the tables of what stands above each class say.
use Rattle.std.specs.Prelude.{◌≡◌, ℕ, ◌<◌, List, length}
use Rattle.class_pool.specs.declared.class.ClassFile.{ClassFile}
use Rattle.class_lookup.specs.Hierarchy.{supertypes, superclasses, with_superinterfaces, all_superinterfaces}
use Rattle.class_hierarchy.specs.declared.above.Above.{Above}
use Rattle.number_sets.specs.Numbers.{entry, IsSameSearch}

-- for each class a list in which the same is found as in that of the definition; that of its superclasses is the definition's
pub record AreAbove (cs : List ClassFile) (above : Above) : Type 0 where
  pub supertypes_long : length above.supertypes.items ≡ length cs
  pub supertypes : (c : ℕ) → c < length cs → IsSameSearch (entry above.supertypes.items c) (supertypes cs c)
  pub superclasses_long : length above.superclasses.items ≡ length cs
  pub superclasses : (c : ℕ) → c < length cs → entry above.superclasses.items c ≡ superclasses cs c
  pub interfaces_long : length above.interfaces.items ≡ length cs
  pub interfaces : (c : ℕ) → c < length cs → IsSameSearch (entry above.interfaces.items c) (with_superinterfaces cs c)
  pub inherited_long : length above.inherited.items ≡ length cs
  pub inherited : (c : ℕ) → c < length cs → IsSameSearch (entry above.inherited.items c) (all_superinterfaces cs c)

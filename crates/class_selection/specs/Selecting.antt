-- What is selected for a class, by what is selected for its superclass: JVM Specification SE 8, 5.4.5, 6.5.invokevirtual and 6.5.invokeinterface.
use Rattle.std.specs.Prelude.{◌≡◌, ℕ, List}
use Rattle.class_pool.specs.declared.class.ClassFile.{ClassFile}
use Rattle.lists.specs.Lists.{onto}
use Rattle.class_lookup.specs.Hierarchy.{superclass, is_interface}
use Rattle.class_lookup.specs.Lookup.{Place}
use Rattle.class_lookup.specs.Selection.{select}
use Rattle.class_hierarchy.specs.Selecting.{selected_of, selected_at, selected_above}
use Rattle.class_selection.specs.declared.selected.Selected.{Selected}

-- what is selected for receivers of the class, and whether it or a method through which it overrides the resolved one is open to each class below
pub record IsSelected (cs : List ClassFile) (c : ℕ) (a : Place) (s : Selected) : Type 0 where
  pub place : s.place ≡ select cs c a
  pub free : s.free ≡ (selected_at cs (is_interface cs a.0) a c).free

-- the same for its direct superclass; nothing where there is none
pub record IsSelectedAbove (cs : List ClassFile) (c : ℕ) (a : Place) (s : Selected) : Type 0 where
  pub place : s.place ≡ onto (superclass cs c) (λ d. select cs d a)
  pub free : s.free ≡ (selected_above cs (is_interface cs a.0) a c).free

-- the same of methods of the name and descriptor of the resolved one, from a class upwards
pub record IsSelectedOf (cs : List ClassFile) (a : Place) (ms : List Place) (s : Selected) : Type 0 where
  pub place : s.place ≡ (selected_of cs (is_interface cs a.0) a ms).place
  pub free : s.free ≡ (selected_of cs (is_interface cs a.0) a ms).free

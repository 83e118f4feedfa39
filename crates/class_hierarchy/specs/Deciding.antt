-- Methods that are selected for the class that declares them, whatever else stands above it.
use Rattle.std.specs.Prelude.{ℕ, Bool, false, ◌&&◌, ◌||◌, List, if◌then◌else◌}
use Rattle.std.specs.Option.{option_map_or}
use Rattle.class_pool.specs.declared.class.ClassFile.{ClassFile}
use Rattle.class_lookup.specs.Hierarchy.{is_among}
use Rattle.class_lookup.specs.Lookup.{Place, same_place}
use Rattle.class_lookup.specs.Selection.{is_virtual, is_public_instance}
use Rattle.class_hierarchy.specs.Members.{declared_as}
use Rattle.class_hierarchy.specs.Selecting.{is_open}

-- the method is the one of its name and descriptor that its class declares, and each class below may override it
abbrev pub is_overridable : List ClassFile → Place → Bool
is_overridable cs a = option_map_or (λ m. same_place m a && is_open cs m) (declared_as cs a a.0) false

-- a class below may have a method of the resolved one's name and descriptor that is selected for it without a look at those above
abbrev pub is_early : List ClassFile → (of_interface : Bool) → (resolved : Place) → Bool
is_early cs of_interface a = of_interface || is_overridable cs a

-- and the method of a class with these superclasses, itself included, is such a one
abbrev pub is_deciding : List ClassFile → (of_interface : Bool) → (resolved : Place) → (superclasses : List ℕ) → Place → Bool
is_deciding cs of_interface a list m = if of_interface then is_public_instance cs m else (is_virtual cs m && is_among list a.0)

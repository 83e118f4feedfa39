-- Selection, as the first method that is reached from the uppermost class downwards.
use Rattle.std.specs.Prelude.{◌≡◌, ℕ, ◌<◌, Bool, true, false, ◌&&◌, ◌||◌, List, [], length, Option, Some, None, is_some, find, slice_index_or, IsTrue}
use Rattle.std.specs.List.{filter_map, list_any}
use Rattle.std.specs.Option.{option_map_or}
use Rattle.number_sets.specs.Numbers.{entry}
use Rattle.class_pool.specs.declared.class.ClassFile.{ClassFile}
use Rattle.class_lookup.specs.Parts.{is_public, is_protected, is_package_private}
use Rattle.class_lookup.specs.Hierarchy.{superclass, superclasses, IsAcyclic}
use Rattle.class_lookup.specs.Lookup.{Place, same_place}
use Rattle.class_lookup.specs.Access.{are_in_one_package}
use Rattle.class_lookup.specs.Selection.{is_method_with, is_virtual, is_public_instance, overriding, head}
use Rattle.class_hierarchy.specs.declared.receivers.Selected.{Selected}
use Rattle.class_hierarchy.specs.Members.{declared_as}

-- an instance method that each class below may override
abbrev pub is_open : List ClassFile → Place → Bool
is_open cs m = is_virtual cs m && is_method_with (λ k. is_public k || is_protected k) cs m

-- the second method is package-private, and the first belongs to its package
abbrev pub is_near : List ClassFile → (m a : Place) → Bool
is_near cs m a = is_method_with is_package_private cs a && are_in_one_package cs m.0 a.0

-- the method is the resolved one; or something was found above it, both aren't private or static, and an open one was found or the resolved one is near
abbrev pub is_joining : List ClassFile → (resolved : Place) → (found free : Bool) → Place → Bool
is_joining cs a found free m = same_place m a || (found && (is_virtual cs m && (is_virtual cs a && (free || is_near cs m a))))

-- ---- what is selected for many receivers

-- of methods of one name and descriptor, from a class upwards: the one that is selected; and, where it overrides the resolved one, whether that or one of those
-- through which it does is open
unfoldable pub selected_of : List ClassFile → (of_interface : Bool) → (resolved : Place) → List Place → Selected
selected_of cs true a ms = record { place = find (is_public_instance cs) ms; free = false }
selected_of cs false a ms = record { place = head (overriding cs a ms); free = list_any (is_open cs) (overriding cs a ms) }

-- the same for a receiver of a class
unfoldable pub selected_at : List ClassFile → (of_interface : Bool) → (resolved : Place) → (class : ℕ) → Selected
selected_at cs of_interface a c = selected_of cs of_interface a (filter_map (declared_as cs a) (superclasses cs c))

-- and for its direct superclass; nothing where there is none
unfoldable pub selected_above : List ClassFile → (of_interface : Bool) → (resolved : Place) → (class : ℕ) → Selected
selected_above cs of_interface a c =
    selected_of cs of_interface a (option_map_or (λ d. filter_map (declared_as cs a) (superclasses cs d)) (superclass cs c) [])

-- the table says it right of each class of which it says it
pub record AreKnown (selected : ℕ → Selected) (most : ℕ) (table : List (Option Selected)) : Type 0 where
  pub long : length table ≡ most
  pub each : (c : ℕ) → IsTrue (is_some (slice_index_or table c None)) → slice_index_or table c None ≡ Some (selected c)

-- the lists of each class with its superclasses
pub record AreChains (cs : List ClassFile) (lists : List (List ℕ)) : Type 0 where
  pub acyclic : IsAcyclic cs
  pub long : length lists ≡ length cs
  pub each : (c : ℕ) → c < length cs → entry lists c ≡ superclasses cs c

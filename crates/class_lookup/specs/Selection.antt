-- Which method overrides which, and which one is selected: JVM Specification SE 8, 5.4.5, and 6.5.invokevirtual, invokeinterface and invokespecial.
use Rattle.std.specs.Prelude.{◌≡◌, ℕ, Bool, false, not, ◌&&◌, ◌||◌, List, [], ◌∷◌, Option, Some, None, if◌then◌else◌, slice_get, IsTrue}
use Rattle.std.specs.Option.{option_map_or}
use Rattle.std.specs.List.{filter_map, find, list_any}
use Rattle.class_pool.specs.declared.class.Member.{Member}
use Rattle.class_pool.specs.declared.class.ClassFile.{ClassFile}
use Rattle.lists.specs.Lists.{onto}
use Rattle.class_lookup.specs.Parts.{Signature, signature_of, is_super_class, is_public, is_private, is_protected, is_package_private, is_static, is_init}
use Rattle.class_lookup.specs.Hierarchy.{superclass, superclasses, is_interface, is_subclass}
use Rattle.class_lookup.specs.Lookup.{Place, method_at, same_place, declared_method}
use Rattle.class_lookup.specs.Access.{are_in_one_package}

abbrev pub signature_at : List ClassFile → Place → Option Signature
signature_at cs m = onto (slice_get cs m.0) (λ c. onto (method_at cs m) (λ k. Some (signature_of c k)))

-- there is such a method, and it passes the test
abbrev pub is_method_with : (Member → Bool) → List ClassFile → Place → Bool
is_method_with test cs m = option_map_or test (method_at cs m) false

-- neither static nor private
abbrev pub is_virtual : List ClassFile → Place → Bool
is_virtual cs m = is_method_with (λ k. not (is_static k || is_private k)) cs m

-- the method is public or protected, or it is package-private and of the other's package
abbrev pub is_open_to : List ClassFile → (method other : Place) → Bool
is_open_to cs a m = is_method_with (λ k. is_public k || is_protected k || (is_package_private k && are_in_one_package cs m.0 a.0)) cs a

-- ---- overriding (5.4.5)

-- what the first method needs in any case to override the second
pub record MayOverride (cs : List ClassFile) (m a : Place) : Type 0 where
  pub signature : Signature
  pub has : signature_at cs m ≡ Some signature
  pub same : signature_at cs a ≡ Some signature
  pub virtual : IsTrue (is_virtual cs m && is_virtual cs a)
  pub below : IsTrue (is_subclass cs m.0 a.0)

-- the first method overrides the second, which is open to it; or it overrides one between them that overrides the second
pub data Overrides (cs : List ClassFile) : (m a : Place) → Type 0 where
  directly : {m a : Place} → MayOverride cs m a → IsTrue (is_open_to cs a m) → Overrides cs m a
  through : {m b a : Place} → MayOverride cs m a → Overrides cs m b → Overrides cs b a → Overrides cs m a

-- ---- the same, decided

-- the methods of that name and descriptor that the class and its superclasses declare, from the class upwards
abbrev pub upwards : List ClassFile → Signature → (class : ℕ) → List Place
upwards cs s c = filter_map (declared_method cs s) (superclasses cs c)

-- a method of the same name and descriptor in a superclass is overridden, without another between
abbrev pub overrides_directly : List ClassFile → (m a : Place) → Bool
overrides_directly cs m a = is_virtual cs m && is_virtual cs a && is_open_to cs a m

-- of methods of one name and descriptor, from a class upwards: those that are a or override it
abbrev pub overriding : List ClassFile → (a : Place) → List Place → List Place
overriding cs a [] = []
overriding cs a (m ∷ above) =
    let found = overriding cs a above in
    if same_place m a || list_any (overrides_directly cs m) found then m ∷ found else found

abbrev pub head : List Place → Option Place
head [] = None
head (m ∷ others) = Some m

-- ---- selection

abbrev pub is_public_instance : List ClassFile → Place → Bool
is_public_instance cs m = is_method_with (λ k. is_public k && not (is_static k)) cs m

abbrev pub is_instance : List ClassFile → Place → Bool
is_instance cs m = is_method_with (λ k. not (is_static k)) cs m

-- From the receiver's class upwards, the first method that is the resolved one or overrides it (6.5.invokevirtual); where the resolved one belongs to an
-- interface, the first public instance method of its name and descriptor (6.5.invokeinterface).
unfoldable pub select : List ClassFile → (receiver : ℕ) → (resolved : Place) → Option Place
select cs receiver a =
    onto (signature_at cs a) (λ s.
    if is_interface cs a.0 then find (is_public_instance cs) (upwards cs s receiver)
    else head (overriding cs a (upwards cs s receiver)))

-- the current class has ACC_SUPER, and the method is named through one of its superclasses and is no instance initialization method
abbrev pub is_of_superclass : List ClassFile → (current named : ℕ) → Signature → Bool
is_of_superclass cs current named s = not (is_init s) && option_map_or is_super_class (slice_get cs current) false && is_subclass cs current named

-- The method that invokespecial runs (6.5.invokespecial): the resolved one, or, where it is named through a superclass, the first instance method of
-- its name and descriptor from the direct superclass of the current class upwards.
unfoldable pub special : List ClassFile → (current named : ℕ) → (resolved : Place) → Option Place
special cs current named a =
    onto (signature_at cs a) (λ s.
    if is_of_superclass cs current named s then onto (superclass cs current) (λ d. find (is_instance cs) (upwards cs s d))
    else Some a)

-- the first method, of a class below the second's, overrides the second
abbrev pub overrides : List ClassFile → (m a : Place) → Bool
overrides cs m a =
    not (same_place m a) && option_map_or (λ s. list_any (same_place m) (overriding cs a (upwards cs s m.0))) (signature_at cs m) false

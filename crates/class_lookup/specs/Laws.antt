-- What the definitions mean in the standard's own words, over classes without a cycle: JVM Specification SE 8, 5.4.3 and 5.4.5.
use Rattle.std.specs.Prelude.{◌≡◌, ◌↔◌, ℕ, Bool, false, not, List, ◌∷◌, ◌++◌, map, Option, Some, None, IsTrue, ◌⊎◌, slice_get}
use Rattle.std.specs.Option.{option_to_list, option_or}
use Rattle.std.specs.List.{flat_map, list_any}
use Rattle.class_pool.specs.declared.class.Member.{Member}
use Rattle.class_pool.specs.declared.class.ClassFile.{ClassFile}
use Rattle.class_lookup.specs.Lists.{first_some}
use Rattle.class_lookup.specs.Parts.{Signature, signature_of, same_text, same_signature, is_init}
use Rattle.class_pool.specs.Grammar.{text_at}
use Rattle.class_lookup.specs.Symbols.{symbol}
use Rattle.class_lookup.specs.Hierarchy.{superclass, superinterfaces, direct_supertypes, superclasses, with_superinterfaces, is_interface, is_among}
use Rattle.class_lookup.specs.Hierarchy.{is_subclass, extends, is_on_a_cycle, IsAcyclic}
use Rattle.class_lookup.specs.Lookup.{Place, same_place, declared_field, declared_method, find_field, find_method}
use Rattle.class_lookup.specs.Selection.{signature_at, MayOverride, Overrides, overrides, upwards, is_public_instance, select}

-- ---- comparing

-- the tests say whether both are equal
pub record Comparisons : Type 0 where
  pub texts : (a b : List ℕ) → IsTrue (same_text a b) ↔ (a ≡ b)
  pub signatures : (s t : Signature) → IsTrue (same_signature s t) ↔ (s ≡ t)
  pub places : (p q : Place) → IsTrue (same_place p q) ↔ (p ≡ q)

-- ---- the hierarchy

-- the second class is directly above the first
abbrev pub IsDirectlyAbove : List ClassFile → (class other : ℕ) → Type 0
IsDirectlyAbove cs c d = IsTrue (is_among (direct_supertypes cs c) d)

-- each class extends itself and those directly above it and what these extend, and nothing else; no class is above itself
pub record IsHierarchy (cs : List ClassFile) : Type 0 where
  pub self : (c : ℕ) → IsTrue (extends cs c c)
  pub direct : (c d : ℕ) → IsDirectlyAbove cs c d → IsTrue (extends cs c d)
  -- what is directly above a class is a direct superinterface of it or its direct superclass
  pub directly : (c d : ℕ) → IsDirectlyAbove cs c d ↔ (IsTrue (is_among (superinterfaces cs c) d) ⊎ (superclass cs c ≡ Some d))
  pub through : (a b c : ℕ) → IsTrue (extends cs a b) → IsTrue (extends cs b c) → IsTrue (extends cs a c)
  pub least : (c d : ℕ) → IsTrue (extends cs c d) → (c ≡ d) ⊎ ((x : ℕ) × IsDirectlyAbove cs c x × IsTrue (extends cs x d))
  -- what each class hands to those directly above it comes to all above
  pub kept : (test : ℕ → Bool) → ((x y : ℕ) → IsTrue (test x) → IsDirectlyAbove cs x y → IsTrue (test y)) → (c d : ℕ) → IsTrue (test c)
      → IsTrue (extends cs c d) → IsTrue (test d)
  pub one_way : (c d : ℕ) → IsTrue (extends cs c d) → IsTrue (extends cs d c) → c ≡ d
  pub acyclic : (c : ℕ) → is_on_a_cycle cs c ≡ false
  -- a superclass is the direct superclass or a superclass of that; what is its own superclass is none
  pub subclass : (c d : ℕ) → IsTrue (is_subclass cs c d) ↔ ((s : ℕ) × (superclass cs c ≡ Some s) × ((s ≡ d) ⊎ IsTrue (is_subclass cs s d)))
  pub subclass_extends : (c d : ℕ) → IsTrue (is_subclass cs c d) → IsTrue (extends cs c d)
  pub not_itself : (c : ℕ) → is_subclass cs c c ≡ false

abbrev pub HierarchyLaw : Type 0
HierarchyLaw = (cs : List ClassFile) → IsAcyclic cs → IsHierarchy cs

-- the second class is the first or a superclass of it
abbrev pub IsUpwardOf : List ClassFile → (class other : ℕ) → Type 0
IsUpwardOf cs c d = IsTrue (is_among (superclasses cs c) d)

-- from a class upwards: the class, and those from its direct superclass upwards
pub record AreSuperclasses (cs : List ClassFile) : Type 0 where
  pub step : (c : ℕ) → superclasses cs c ≡ c ∷ flat_map (superclasses cs) (option_to_list (superclass cs c))
  pub self : (c : ℕ) → IsUpwardOf cs c c
  pub by : (c x d : ℕ) → superclass cs c ≡ Some x → IsUpwardOf cs x d → IsUpwardOf cs c d
  pub way : (c d : ℕ) → IsUpwardOf cs c d → (c ≡ d) ⊎ ((x : ℕ) × (superclass cs c ≡ Some x) × IsUpwardOf cs x d)
  pub through : (a b c : ℕ) → IsUpwardOf cs a b → IsUpwardOf cs b c → IsUpwardOf cs a c
  pub extends : (c d : ℕ) → IsUpwardOf cs c d → IsTrue (extends cs c d)

abbrev pub SuperclassesLaw : Type 0
SuperclassesLaw = (cs : List ClassFile) → IsAcyclic cs → AreSuperclasses cs

-- ---- fields (5.4.3.2)

-- The class itself; else its direct superinterfaces in order, recursively; else its superclass, recursively.
abbrev pub FieldsAreLookedUp : Type 0
FieldsAreLookedUp = (cs : List ClassFile) → IsAcyclic cs → (c : ℕ) (s : Signature)
    → find_field cs c s ≡ first_some (declared_field cs s c ∷ map (λ d. find_field cs d s) (superinterfaces cs c ++ option_to_list (superclass cs c)))

-- ---- methods (5.4.3.3, 5.4.3.4)

-- in a class and its superclasses
abbrev pub in_superclasses : List ClassFile → Signature → (class : ℕ) → Option Place
in_superclasses cs s c = first_some (map (declared_method cs s) (superclasses cs c))

-- in an interface and its superinterfaces
abbrev pub in_superinterfaces : List ClassFile → Signature → (class : ℕ) → Option Place
in_superinterfaces cs s c = first_some (map (declared_method cs s) (with_superinterfaces cs c))

-- in the superinterfaces of a class, then in those of its superclasses
abbrev pub in_all_superinterfaces : List ClassFile → Signature → (class : ℕ) → Option Place
in_all_superinterfaces cs s c = first_some (map (λ k. first_some (map (in_superinterfaces cs s) (superinterfaces cs k))) (superclasses cs c))

pub record MethodsAreLookedUp (cs : List ClassFile) (c : ℕ) (s : Signature) : Type 0 where
  -- the class itself, else its superclass, recursively
  pub superclasses : in_superclasses cs s c ≡ first_some (declared_method cs s c ∷ map (in_superclasses cs s) (option_to_list (superclass cs c)))
  -- the interface itself, else its direct superinterfaces in order, recursively
  pub superinterfaces : in_superinterfaces cs s c ≡ first_some (declared_method cs s c ∷ map (in_superinterfaces cs s) (superinterfaces cs c))
  pub of_class : IsTrue (not (is_init s)) → is_interface cs c ≡ false → find_method cs c s ≡ option_or (in_superclasses cs s c) (in_all_superinterfaces cs s c)
  pub of_interface : IsTrue (not (is_init s)) → IsTrue (is_interface cs c) → find_method cs c s ≡ in_superinterfaces cs s c
  pub of_init : IsTrue (is_init s) → find_method cs c s ≡ declared_method cs s c

abbrev pub MethodLookupLaw : Type 0
MethodLookupLaw = (cs : List ClassFile) → IsAcyclic cs → (c : ℕ) (s : Signature) → MethodsAreLookedUp cs c s

-- ---- what is found

-- a member is found in the class or above it, and has the name and the descriptor that are asked for
pub record IsFound (cs : List ClassFile) (c : ℕ) (s : Signature) (members : ClassFile → List Member) (m : Place) : Type 0 where
  pub owner : ClassFile
  pub member : Member
  pub class : slice_get cs m.0 ≡ Some owner
  pub there : slice_get (members owner) m.1 ≡ Some member
  pub signature : signature_of owner member ≡ s
  pub above : IsTrue (extends cs c m.0)

abbrev pub FoundFields : Type 0
FoundFields = (cs : List ClassFile) → IsAcyclic cs → (c : ℕ) (s : Signature) (f : Place) → find_field cs c s ≡ Some f → IsFound cs c s (λ k. k.fields) f

abbrev pub FoundMethods : Type 0
FoundMethods = (cs : List ClassFile) → IsAcyclic cs → (c : ℕ) (s : Signature) (m : Place) → find_method cs c s ≡ Some m → IsFound cs c s (λ k. k.methods) m

-- ---- methods, their names and descriptors

-- a method and its class
pub record IsMethod (cs : List ClassFile) (m : Place) (s : Signature) : Type 0 where
  pub owner : ClassFile
  pub class : slice_get cs m.0 ≡ Some owner
  pub member : Member
  pub there : slice_get owner.methods m.1 ≡ Some member
  pub signature : signature_of owner member ≡ s

pub record AreMethods (cs : List ClassFile) : Type 0 where
  pub at : (m : Place) (s : Signature) → (signature_at cs m ≡ Some s) ↔ IsMethod cs m s
  -- what a class declares is its own method
  pub declared : (s : Signature) (c : ℕ) (m : Place) → declared_method cs s c ≡ Some m → (m.0 ≡ c) × IsMethod cs m s
  -- and what it and its superclasses declare, from the class upwards
  pub upwards : (s : Signature) (c : ℕ) (m : Place) → IsTrue (list_any (same_place m) (upwards cs s c)) → IsUpwardOf cs c m.0 × IsMethod cs m s

abbrev pub MethodsLaw : Type 0
MethodsLaw = (cs : List ClassFile) → AreMethods cs

-- ---- overriding and selection (5.4.5, 6.5.invokevirtual, 6.5.invokeinterface)

-- no class declares two methods of one name and descriptor (4.6)
abbrev pub DeclareMethodsOnce : List ClassFile → Type 0
DeclareMethodsOnce cs = (c i j : ℕ) (k : ClassFile) (x y : Member) → slice_get cs c ≡ Some k → slice_get k.methods i ≡ Some x → slice_get k.methods j ≡ Some y
    → signature_of k x ≡ signature_of k y → i ≡ j

-- the test is true exactly of a method that overrides the other
abbrev pub OverridingLaw : Type 0
OverridingLaw = (cs : List ClassFile) → IsAcyclic cs → DeclareMethodsOnce cs → (m a : Place) → IsTrue (overrides cs m a) ↔ Overrides cs m a

-- in whatever way a method overrides another, it has what it needs in any case
abbrev pub OverridingNeeds : Type 0
OverridingNeeds = (cs : List ClassFile) (m a : Place) → Overrides cs m a → MayOverride cs m a

-- the method is the resolved one or overrides it
abbrev pub IsOrOverrides : List ClassFile → (m a : Place) → Type 0
IsOrOverrides cs m a = (m ≡ a) ⊎ Overrides cs m a

-- from the receiver's class upwards, the first method that is the resolved one or overrides it
pub record IsFirstOverriding (cs : List ClassFile) (receiver : ℕ) (a t : Place) : Type 0 where
  pub is : IsOrOverrides cs t a
  pub upward : IsUpwardOf cs receiver t.0
  pub first : (m : Place) → IsOrOverrides cs m a → IsUpwardOf cs receiver m.0 → IsUpwardOf cs t.0 m.0

-- from the receiver's class upwards, the first public instance method of this name and descriptor
pub record IsFirstPublic (cs : List ClassFile) (receiver : ℕ) (s : Signature) (t : Place) : Type 0 where
  pub signature : signature_at cs t ≡ Some s
  pub public : IsTrue (is_public_instance cs t)
  pub upward : IsUpwardOf cs receiver t.0
  pub first : (m : Place) → signature_at cs m ≡ Some s → IsTrue (is_public_instance cs m) → IsUpwardOf cs receiver m.0 → IsUpwardOf cs t.0 m.0

-- what is selected for a method of that name and descriptor, and that nothing is selected only where there is none
pub record IsSelection (cs : List ClassFile) (receiver : ℕ) (a : Place) (s : Signature) : Type 0 where
  pub of_class : is_interface cs a.0 ≡ false → (t : Place) → select cs receiver a ≡ Some t → IsFirstOverriding cs receiver a t
  pub none_of_class : is_interface cs a.0 ≡ false → select cs receiver a ≡ None → (m : Place) → IsOrOverrides cs m a → IsUpwardOf cs receiver m.0 → ⊥
  -- what is selected is also selected for itself
  pub again : is_interface cs a.0 ≡ false → (t : Place) → is_interface cs t.0 ≡ false → select cs receiver a ≡ Some t → select cs receiver t ≡ Some t
  pub of_interface : IsTrue (is_interface cs a.0) → (t : Place) → select cs receiver a ≡ Some t → IsFirstPublic cs receiver s t
  pub none_of_interface : IsTrue (is_interface cs a.0) → select cs receiver a ≡ None
      → (m : Place) → signature_at cs m ≡ Some s → IsTrue (is_public_instance cs m) → IsUpwardOf cs receiver m.0 → ⊥

abbrev pub SelectionLaw : Type 0
SelectionLaw = (cs : List ClassFile) → IsAcyclic cs → DeclareMethodsOnce cs → (receiver : ℕ) (a : Place) (s : Signature) → signature_at cs a ≡ Some s
    → IsSelection cs receiver a s

-- ---- symbols

-- each text of a class has one
abbrev pub MembersHaveSymbols : Type 0
MembersHaveSymbols = (cs : List ClassFile) (k : ℕ) (c : ClassFile) (index : ℕ) → slice_get cs k ≡ Some c → (n : ℕ) × (symbol cs (text_at c.pool index) ≡ Some n)

-- two texts of one symbol are one
abbrev pub SymbolsStandForTexts : Type 0
SymbolsStandForTexts = (cs : List ClassFile) (t u : List ℕ) (n : ℕ) → symbol cs t ≡ Some n → symbol cs u ≡ Some n → t ≡ u

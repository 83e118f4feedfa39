-- The laws of class lookup from which those of resolved classes follow. Each lemma that stands on them takes them.
use Rattle.std.proofs.Common.{◌≡◌, ℕ, List, inr, Some}
use Rattle.class_pool.specs.declared.class.ClassFile.{ClassFile}
use Rattle.class_lookup.specs.Parts.{Signature}
use Rattle.class_lookup.specs.Hierarchy.{superclass, IsAcyclic}
use Rattle.class_lookup.specs.Lookup.{Place}
use Rattle.class_lookup.specs.Selection.{signature_at}
use Rattle.class_lookup.specs.Laws.{Comparisons, IsDirectlyAbove, HierarchyLaw, SuperclassesLaw, MethodLookupLaw, FoundFields, FoundMethods, IsMethod, MethodsLaw, OverridingNeeds, SelectionLaw}

-- the order of classes
pub record OrderLaws : Type 0 where
  pub hierarchy : HierarchyLaw
  pub superclasses : SuperclassesLaw

-- and their methods
pub record MethodLaws : Type 0 where
  pub order : OrderLaws
  pub signatures : MethodsLaw
  pub needs : OverridingNeeds
  pub selection : SelectionLaw

-- and what is looked up
pub record ClassLaws : Type 0 where
  pub methods : MethodLaws
  pub comparisons : Comparisons
  pub lookups : MethodLookupLaw
  pub found_fields : FoundFields
  pub found_methods : FoundMethods

-- a direct superclass is directly above
pub super_is_above : OrderLaws → (cs : List ClassFile) → IsAcyclic cs → (c d : ℕ) → superclass cs c ≡ Some d → IsDirectlyAbove cs c d
super_is_above order cs a c d h = ((order.hierarchy cs a).directly c d).1 (inr h)

-- what has a name and a descriptor is a method, and conversely
pub method_is : MethodLaws → (cs : List ClassFile) (m : Place) (s : Signature) → signature_at cs m ≡ Some s → IsMethod cs m s
method_is laws cs m s h = ((laws.signatures cs).at m s).0 h

pub is_method : MethodLaws → (cs : List ClassFile) (m : Place) (s : Signature) → IsMethod cs m s → signature_at cs m ≡ Some s
is_method laws cs m s d = ((laws.signatures cs).at m s).1 d

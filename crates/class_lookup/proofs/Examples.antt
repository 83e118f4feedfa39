-- The worked hierarchy, computed.
use Rattle.std.proofs.Common.{refl}
use Rattle.class_lookup.specs.Hierarchy.{superclasses, with_superinterfaces, supertypes}
use Rattle.class_lookup.specs.Lookup.{find_field, find_method}
use Rattle.class_lookup.specs.Selection.{select, special}
use Rattle.class_lookup.specs.Example.{WorkedLookups, Fields, MethodsOfClasses, MethodsOfInterfaces, WithinPackages, ThroughPackages, WithoutOverriding, Selected, SelectedForInterfaces, CalledSpecially, Hierarchies}

fields : Fields
unfolding superclasses with_superinterfaces supertypes find_field find_method select special
fields = (refl, refl, refl, refl, refl, refl, refl, refl, refl, refl)

methods_of_classes : MethodsOfClasses
unfolding superclasses with_superinterfaces supertypes find_field find_method select special
methods_of_classes = (refl, refl, refl, refl, refl, refl, refl, refl, refl, refl, refl, refl, refl)

methods_of_interfaces : MethodsOfInterfaces
unfolding superclasses with_superinterfaces supertypes find_field find_method select special
methods_of_interfaces = (refl, refl, refl, refl, refl)

within_packages : WithinPackages
unfolding superclasses with_superinterfaces supertypes find_field find_method select special
within_packages = (refl, refl, refl, refl, refl, refl)

through_packages : ThroughPackages
unfolding superclasses with_superinterfaces supertypes find_field find_method select special
through_packages = (refl, refl, refl, refl, refl)

without_overriding : WithoutOverriding
unfolding superclasses with_superinterfaces supertypes find_field find_method select special
without_overriding = (refl, refl, refl, refl, refl)

selected : Selected
unfolding superclasses with_superinterfaces supertypes find_field find_method select special
selected = (refl, refl, refl, refl, refl, refl, refl, refl, refl, refl, refl, refl)

selected_for_interfaces : SelectedForInterfaces
unfolding superclasses with_superinterfaces supertypes find_field find_method select special
selected_for_interfaces = (refl, refl, refl)

called_specially : CalledSpecially
unfolding superclasses with_superinterfaces supertypes find_field find_method select special
called_specially = (refl, refl, refl, refl)

hierarchy : Hierarchies
unfolding superclasses with_superinterfaces supertypes find_field find_method select special
hierarchy = (refl, refl, refl, refl, refl, refl, refl, refl, refl)

pub worked : WorkedLookups
worked = record { fields = fields; methods_of_classes = methods_of_classes; methods_of_interfaces = methods_of_interfaces; within_packages = within_packages; through_packages = through_packages; without_overriding = without_overriding; selected = selected; selected_for_interfaces = selected_for_interfaces; called_specially = called_specially; hierarchy = hierarchy }

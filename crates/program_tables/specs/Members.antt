-- Tables of members: which a table has, and the number of each.
use Rattle.std.specs.Prelude.{◌≡◌, ℕ, ◌+◌, Bool, true, not, if◌then◌else◌, List, [], ◌∷◌}
use Rattle.std.specs.List.{filter}
use Rattle.std.specs.Map.{lookup}
use Rattle.class_pool.specs.declared.class.Member.{Member}
use Rattle.class_pool.specs.declared.class.ClassFile.{ClassFile}
use Rattle.bytecode_model.specs.Lists.{index_of}
use Rattle.class_lookup.specs.Parts.{has_code, is_static}
use Rattle.class_lookup.specs.Lookup.{Place, same_place}
use Rattle.program_tables.specs.declared.members.Which.{Which}
use Rattle.program_tables.specs.declared.members.Which.TheVariants.{Field, StaticField, InstanceField, MethodWithCode, OtherMethod}
use Rattle.program_tables.specs.Numbers.{places_of, is_coded, is_static_field, is_instance_field}

-- the list of which such a member is one
abbrev pub members_in : Which → ClassFile → List Member
members_in Field c = c.fields
members_in StaticField c = c.fields
members_in InstanceField c = c.fields
members_in MethodWithCode c = c.methods
members_in OtherMethod c = c.methods

abbrev pub takes : Which → Member → Bool
takes Field m = true
takes StaticField m = is_static m
takes InstanceField m = not (is_static m)
takes MethodWithCode m = has_code m
takes OtherMethod m = not (has_code m)

-- such members of a class, by their places from a place on
abbrev pub own_members : Which → (class place : ℕ) → List Member → List Place
own_members which c i [] = []
own_members which c i (m ∷ ms) = if takes which m then (c, i) ∷ own_members which c (i + 1) ms else own_members which c (i + 1) ms

abbrev pub is_chosen : Which → List ClassFile → Place → Bool
is_chosen Field cs p = true
is_chosen StaticField cs p = is_static_field cs p
is_chosen InstanceField cs p = is_instance_field cs p
is_chosen MethodWithCode cs p = is_coded cs p
is_chosen OtherMethod cs p = not (is_coded cs p)

-- such members of all classes, in their order
abbrev pub chosen : Which → List ClassFile → List Place
chosen which cs = filter (is_chosen which cs) (places_of (members_in which) cs)

-- the entries give the number of each member, that of the first of equal ones
abbrev pub AreNumbered : List (Place × ℕ) → List Place → Type 0
AreNumbered es ps = (q : Place) → lookup (same_place q) es ≡ index_of (same_place q) ps

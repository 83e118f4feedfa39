-- Parts of plans that are right: texts, descriptors, mentions, code and members.
use Rattle.std.proofs.Common.{◌≡◌, ℕ, ◌<◌, ◌≤◌, nat_lt, ◌&&◌, Bool, true, false, List, [], ◌∷◌, length, Some, None, refl, sym, ap, ◌∙◌, arith, lit<, lit≤, inl, inr}
use Rattle.std.specs.Prelude.{codes, bit_and}
use Rattle.std.specs.List.{list_all}
use Rattle.std.proofs.lemmas.Bool.{ltb-true}
use Rattle.lists.specs.Tests.{and_left, and_right}
use Rattle.class_pool.specs.Utf8.{utf8_bytes, AreUnits}
use Rattle.class_pool.specs.Structure.{IsHalf}
use Rattle.descriptors.specs.declared.descriptor.Element.TheVariants as elements
use Rattle.descriptors.specs.declared.descriptor.FieldType.{FieldType}
use Rattle.descriptors.specs.declared.descriptor.MethodType.{MethodType}
use Rattle.descriptors.specs.Names.{is_instance_initializer}
use Rattle.descriptors.specs.Descriptors.{IsMethodDescriptor, argument_words}
use Rattle.class_rules.specs.Flags.{acc_public, acc_private, acc_protected, acc_static, acc_interface, acc_abstract, acc_native, IsSet}
use Rattle.class_rules.specs.Rules.{IsField, IsMethod, IsClassName, IsUnqualified, IsMethodName, IsDeclaredName, HasOneAccess, TakesFewWords}
use Rattle.class_making.specs.declared.item.Item.TheVariants.{Text, Class, Field, Method}
use Rattle.class_making.specs.declared.plan.Piece.{Piece}
use Rattle.class_making.specs.Plans.{field_plan, method_plan}
use Rattle.class_making.specs.Right.{IsPoolText, IsRightMention, IsRightCodePlan, IsRightFieldPlan, IsRightMethodPlan}

-- ---- texts

abbrev pub fits_pool : List ℕ → Bool
fits_pool units = list_all (λ unit. nat_lt unit 65536) units && nat_lt (length (utf8_bytes units)) 65536

units_fit : (units : List ℕ) → list_all (λ unit. nat_lt unit 65536) units ≡ true → AreUnits units
units_fit [] h = tt
units_fit (unit ∷ units) h =
    let here : unit < 65536 = ltb-true unit 65536 (and_left (nat_lt unit 65536) (list_all (λ u. nat_lt u 65536) units) h) in
    (omega arith, units_fit units (and_right (nat_lt unit 65536) (list_all (λ u. nat_lt u 65536) units) h))

pub pool_text : (units : List ℕ) → fits_pool units ≡ true → IsPoolText units
pool_text units h =
    let size : length (utf8_bytes units) < 65536 = ltb-true (length (utf8_bytes units)) 65536 (and_right (list_all (λ unit. nat_lt unit 65536) units) (nat_lt (length (utf8_bytes units)) 65536) h) in
    (units_fit units (and_left (list_all (λ unit. nat_lt unit 65536) units) (nat_lt (length (utf8_bytes units)) 65536) h), omega arith)

-- ---- descriptors

abbrev pub int : FieldType
int = record { dimensions = 0; element = elements.Int }

abbrev pub char : FieldType
char = record { dimensions = 0; element = elements.Char }

abbrev pub chars : FieldType
chars = record { dimensions = 1; element = elements.Char }

abbrev pub string : FieldType
string = record { dimensions = 0; element = elements.Class (codes "java/lang/String") }

abbrev pub strings : FieldType
strings = record { dimensions = 1; element = elements.Class (codes "java/lang/String") }

pub chars_field : IsField (codes "[C")
chars_field = (chars, ((lit< tt, tt), refl))

pub string_field : IsField (codes "Ljava/lang/String;")
string_field = (string, ((lit< tt, refl), refl))

-- a descriptor with its types
abbrev pub Types : List ℕ → Type 0
Types units = (m : MethodType) × IsMethodDescriptor units m × (argument_words m.parameters ≤ 254)

abbrev pub nothing_types : Types (codes "()V")
nothing_types = (record { parameters = []; result = None }, (record { parameters = tt; result = tt; words = lit≤ tt }, refl), lit≤ tt)

abbrev pub takes_string_types : Types (codes "(Ljava/lang/String;)V")
takes_string_types = (record { parameters = string ∷ []; result = None }, (record { parameters = ((lit< tt, refl), tt); result = tt; words = lit≤ tt }, refl), lit≤ tt)

abbrev pub gives_int_types : Types (codes "()I")
gives_int_types = (record { parameters = []; result = Some int }, (record { parameters = tt; result = (lit< tt, tt); words = lit≤ tt }, refl), lit≤ tt)

abbrev pub takes_int_types : Types (codes "(I)V")
takes_int_types = (record { parameters = int ∷ []; result = None }, (record { parameters = ((lit< tt, tt), tt); result = tt; words = lit≤ tt }, refl), lit≤ tt)

abbrev pub char_at_types : Types (codes "(I)C")
char_at_types = (record { parameters = int ∷ []; result = Some char }, (record { parameters = ((lit< tt, tt), tt); result = (lit< tt, tt); words = lit≤ tt }, refl), lit≤ tt)

abbrev pub gives_string_types : Types (codes "()Ljava/lang/String;")
gives_string_types = (record { parameters = []; result = Some string }, (record { parameters = tt; result = (lit< tt, refl); words = lit≤ tt }, refl), lit≤ tt)

abbrev pub main_types : Types (codes "([Ljava/lang/String;)V")
main_types = (record { parameters = strings ∷ []; result = None }, (record { parameters = ((lit< tt, refl), tt); result = tt; words = lit≤ tt }, refl), lit≤ tt)

pub is_method : (units : List ℕ) → Types units → IsMethod units
is_method units t = (t.0, t.1)

pub takes_few : (flags : ℕ) (units : List ℕ) → Types units → TakesFewWords flags units
takes_few flags units t = (t.0, t.1, (λ _. omega (arith, t.2), λ _. omega (arith, t.2)))

-- ---- mentions

pub text_right : (units : List ℕ) → IsPoolText units → IsRightMention (Text units)
text_right units fits = (fits, tt)

pub class_right : (name : List ℕ) → IsClassName name → IsPoolText name → IsRightMention (Class name)
class_right name is fits = (inl is, (fits, tt))

pub field_right : (owner name descriptor : List ℕ) → IsClassName owner → IsPoolText owner → IsUnqualified name → IsPoolText name → IsField descriptor → IsPoolText descriptor → IsRightMention (Field owner name descriptor)
field_right owner name descriptor is fits named name_fits typed type_fits = (typed, (inl is, (fits, (inl (typed, named), (name_fits, (type_fits, tt))))))

pub method_right : (owner name descriptor : List ℕ) → IsClassName owner → IsPoolText owner → IsMethodName name → IsPoolText name → IsMethod descriptor → IsPoolText descriptor → IsRightMention (Method owner name descriptor)
method_right owner name descriptor is fits named name_fits typed type_fits = (typed, (inl is, (fits, (inr (typed, named), (name_fits, (type_fits, tt))))))

-- ---- flags

pub lacks : (flags flag : ℕ) → bit_and flags flag ≡ 0 → ¬ IsSet flags flag
lacks flags flag none set = set none

pub public_access : (flags : ℕ) → bit_and flags acc_private ≡ 0 → bit_and flags acc_protected ≡ 0 → HasOneAccess flags
public_access flags p q = record { public_private = λ h. h.1 p; public_protected = λ h. h.1 q; private_protected = λ h. h.0 p }

pub private_access : (flags : ℕ) → bit_and flags acc_public ≡ 0 → bit_and flags acc_protected ≡ 0 → HasOneAccess flags
private_access flags p q = record { public_private = λ h. h.0 p; public_protected = λ h. h.0 p; private_protected = λ h. h.1 q }

-- ---- members

-- a method that is no instance initializer
pub plain_method : (class_flags flags : ℕ) (name descriptor : List ℕ) (max_stack max_locals : ℕ) (pieces : List Piece) → IsHalf flags → IsDeclaredName name → is_instance_initializer name ≡ false → Types descriptor → HasOneAccess flags
    → bit_and flags acc_abstract ≡ 0 → bit_and flags acc_native ≡ 0 → IsRightCodePlan (record { max_stack = max_stack; max_locals = max_locals; pieces = pieces; stack_map = None })
    → IsRightMethodPlan class_flags (method_plan flags name descriptor max_stack max_locals pieces)
plain_method class_flags flags name descriptor max_stack max_locals pieces half named other types access a n code = record {
  flags = half;
  name = named;
  descriptor = takes_few flags descriptor types;
  access = access;
  plain = λ h. absurd (h a);
  initializer = λ e. absurd (let f : false ≡ true = sym other ∙ ap is_instance_initializer e in cc);
  code = (λ h. h a, λ h. h n, code);
}

-- an instance initializer of a class
pub init_method : (class_flags : ℕ) (descriptor : List ℕ) (max_stack max_locals : ℕ) (pieces : List Piece) → bit_and class_flags acc_interface ≡ 0 → (types : Types descriptor) → types.0.result ≡ None
    → IsRightCodePlan (record { max_stack = max_stack; max_locals = max_locals; pieces = pieces; stack_map = None })
    → IsRightMethodPlan class_flags (method_plan 0x0001 (codes "<init>") descriptor max_stack max_locals pieces)
init_method class_flags descriptor max_stack max_locals pieces of_class types nothing code = record {
  flags = lit< tt;
  name = (refl, refl);
  descriptor = takes_few 0x0001 descriptor types;
  access = public_access 0x0001 refl refl;
  plain = λ h. absurd (h refl);
  initializer = λ e. record { of_class = lacks class_flags acc_interface of_class; not_static = lacks 0x0001 acc_static refl; nothing = (types.0, types.1, nothing) };
  code = (λ h. h refl, λ h. h refl, code);
}

pub private_field : (class_flags flags : ℕ) (name descriptor : List ℕ) → bit_and class_flags acc_interface ≡ 0 → IsHalf flags → IsUnqualified name → IsField descriptor → HasOneAccess flags
    → IsRightFieldPlan class_flags (field_plan flags name descriptor)
private_field class_flags flags name descriptor of_class half named typed access = record {
  flags = half;
  name = named;
  descriptor = typed;
  access = access;
  of_interface = λ h. absurd (h of_class);
}

-- The rules as the code tests them, over what each text is (Forms). What they say stands in Rules, and that the two
-- are the same is a law.
use Rattle.std.specs.Prelude.{ℕ, ◌+◌, Bool, true, false, not, ◌&&◌, ◌||◌, ◌==◌, nat_le, nat_eq, if◌then◌else◌, List, [], ◌∷◌, length, codes, count_by, Option}
use Rattle.std.specs.Prelude.{Some, None, is_some}
use Rattle.std.specs.List.{list_all, list_any}
use lib.Pointwise.{pointwise}
use Rattle.class_pool.specs.declared.entry.Entry.{Entry}
use Rattle.class_pool.specs.declared.entry.Entry.TheVariants as entries
use Rattle.class_pool.specs.Grammar.{entry_at, is_utf8, is_class, text_at, has}
use Rattle.class_pool.specs.declared.class.Attribute.{Attribute}
use Rattle.class_pool.specs.declared.class.Body.{Body}
use Rattle.class_pool.specs.declared.class.Body.TheVariants.{Code, ConstantValue}
use Rattle.class_pool.specs.declared.class.Code.{Code as CodeParts}
use Rattle.class_pool.specs.declared.class.Member.{Member}
use Rattle.class_pool.specs.declared.class.ClassFile.{ClassFile}
use Rattle.class_rules.specs.declared.forms.Constant.{Constant}
use Rattle.class_rules.specs.declared.forms.Constant.TheVariants as constants
use Rattle.class_rules.specs.declared.forms.Call.{Call}
use Rattle.class_rules.specs.declared.forms.Form.{Form}
use Rattle.class_pool.specs.Kind.{is_named}
use Rattle.class_rules.specs.Forms.{form_at, no_form}
use Rattle.class_rules.specs.Flags.{acc_public, acc_private, acc_protected, acc_static, acc_final, acc_synchronized, acc_native, acc_interface, acc_abstract}
use Rattle.class_rules.specs.Flags.{acc_strict}

-- ---- the pool

-- what the descriptor of a name and type is
abbrev pub described : List Form → Option Entry → Form
described forms (Some (entries.NameAndType name descriptor)) = form_at forms descriptor
described forms entry = no_form

-- the name and the descriptor have the forms that 4.4.1, 4.4.2, 4.4.6, 4.4.9 and 4.4.10 ask for
abbrev pub names_rightly : List Entry → List Form → Entry → Bool
names_rightly pool forms (entries.Class name) = (form_at forms name).is_class || (form_at forms name).is_array
names_rightly pool forms (entries.Field owner member) = (described forms (entry_at pool member)).is_field
names_rightly pool forms (entries.Method owner member) = is_some (described forms (entry_at pool member)).method
names_rightly pool forms (entries.InterfaceMethod owner member) = is_some (described forms (entry_at pool member)).method
names_rightly pool forms (entries.NameAndType name descriptor) =
    ((form_at forms descriptor).is_field && (form_at forms name).is_unqualified)
    || (is_some (form_at forms descriptor).method && (form_at forms name).is_method)
names_rightly pool forms (entries.MethodType descriptor) = is_some (form_at forms descriptor).method
names_rightly pool forms (entries.Dynamic bootstrap member) = is_some (described forms (entry_at pool member)).method
names_rightly pool forms entry = true

-- ---- the class

-- the entry is a class that is no array class
abbrev pub names_class : List Form → Option Entry → Bool
names_class forms (Some (entries.Class name)) = (form_at forms name).is_class
names_class forms entry = false

-- an interface is abstract (4.1)
abbrev pub has_class_flags : ℕ → Bool
has_class_flags flags = not (has flags acc_interface) || has flags acc_abstract

-- ---- attributes and code

-- the name of each attribute is a text (4.7)
abbrev pub are_named : List Entry → List Attribute → Bool
are_named pool attributes = list_all (λ a. is_utf8 (entry_at pool a.name)) attributes

abbrev pub is_code_body : Body → Bool
is_code_body (Code code) = true
is_code_body body = false

abbrev pub is_code : Attribute → Bool
is_code a = is_code_body a.body

abbrev pub is_constant_body : Body → Bool
is_constant_body (ConstantValue constant) = true
is_constant_body body = false

abbrev pub is_constant_value : Attribute → Bool
is_constant_value a = is_constant_body a.body

-- the class of an exception entry is 0 or a class (4.7.3)
abbrev pub catches_class : List Entry → ℕ → Bool
catches_class pool caught = caught == 0 || is_class (entry_at pool caught)

-- a table of frames (4.7.4)
abbrev pub is_frame_table : List Entry → ℕ × List ℕ → Bool
is_frame_table pool a = is_named pool a.0 (codes "StackMapTable")

-- from 1 to 65,535 bytes, classes that can be caught, names, and at most one StackMapTable (4.7.3, 4.7.4)
abbrev pub is_right_code : List Entry → CodeParts → Bool
is_right_code pool c =
    nat_le 1 (length c.code) && nat_le (length c.code) 65535
    && list_all (λ h. catches_class pool h.3) c.handlers
    && list_all (λ a. is_utf8 (entry_at pool a.0)) c.attributes
    && nat_le (count_by (is_frame_table pool) c.attributes) 1

abbrev pub is_right_body : List Entry → Body → Bool
is_right_body pool (Code code) = is_right_code pool code
is_right_body pool body = true

-- ---- members

-- at most one of public, private and protected (4.5, 4.6)
abbrev pub has_one_access : ℕ → Bool
has_one_access flags = not (has flags acc_public && has flags acc_private) && not (has flags acc_public && has flags acc_protected)
    && not (has flags acc_private && has flags acc_protected)

-- the fields of an interface are public, static and final (4.5)
abbrev pub is_interface_field : ℕ → ℕ → Bool
is_interface_field class_flags flags = not (has class_flags acc_interface) || (has flags acc_public && has flags acc_static && has flags acc_final)

-- the entry is a constant of that kind
abbrev pub fits_constant : Constant → Option Entry → Bool
fits_constant constants.Integer (Some (entries.Integer n)) = true
fits_constant constants.Float (Some (entries.Float bits)) = true
fits_constant constants.Long (Some (entries.Long n)) = true
fits_constant constants.Double (Some (entries.Double bits)) = true
fits_constant constants.Text (Some (entries.Text units)) = true
fits_constant constant entry = false

abbrev pub is_constant : Option Entry → Bool
is_constant entry =
    fits_constant constants.Integer entry || fits_constant constants.Float entry || fits_constant constants.Long entry
    || fits_constant constants.Double entry || fits_constant constants.Text entry

abbrev pub fits_field : Option Constant → Option Entry → Bool
fits_field None entry = false
fits_field (Some constant) entry = fits_constant constant entry

-- a ConstantValue points at a constant, that of a static field at one of its descriptor's kind (4.7.2)
abbrev pub is_right_constant : List Entry → ℕ → Option Constant → Body → Bool
is_right_constant pool flags constant (ConstantValue index) = if has flags acc_static then fits_field constant (entry_at pool index) else is_constant
    (entry_at pool index)
is_right_constant pool flags constant body = true

-- a field (4.5)
abbrev pub is_right_field : List Entry → List Form → ℕ → Member → Bool
is_right_field pool forms class_flags m =
    (form_at forms m.name).is_unqualified && (form_at forms m.descriptor).is_field
    && has_one_access m.flags && is_interface_field class_flags m.flags
    && are_named pool m.attributes && nat_le (count_by is_constant_value m.attributes) 1
    && list_all (λ a. is_right_constant pool m.flags (form_at forms m.descriptor).constant a.body) m.attributes

-- at most 255 words, with `this` where the method isn't static (4.3.3)
abbrev pub takes_words : ℕ → Option Call → Bool
takes_words flags None = false
takes_words flags (Some call) = nat_le (call.words + (if has flags acc_static then 0 else 1)) 255

-- abstract excludes private, static, final, synchronized, native and strict (4.6)
abbrev pub is_plainly_abstract : ℕ → Bool
is_plainly_abstract flags =
    not (has flags acc_abstract)
    || not (has flags acc_private || has flags acc_static || has flags acc_final || has flags acc_synchronized || has flags acc_native || has flags acc_strict)

abbrev pub is_void : Option Call → Bool
is_void None = false
is_void (Some call) = call.is_void

-- `<init>` stands in no interface, isn't static and returns nothing (2.9, 4.6)
abbrev pub is_right_initializer : ℕ → ℕ → Option Call → Bool
is_right_initializer class_flags flags call = not (has class_flags acc_interface) && not (has flags acc_static) && is_void call

-- one Code exactly where the method is neither abstract nor native (4.7.3)
abbrev pub has_right_code : List Entry → Member → Bool
has_right_code pool m =
    (count_by is_code m.attributes == (if has m.flags acc_abstract || has m.flags acc_native then 0 else 1))
    && list_all (λ a. is_right_body pool a.body) m.attributes

-- a method (4.6)
abbrev pub is_right_method : List Entry → List Form → ℕ → Member → Bool
is_right_method pool forms class_flags m =
    (form_at forms m.name).is_method && (form_at forms m.name).has_no_parenthesis
    && takes_words m.flags (form_at forms m.descriptor).method
    && has_one_access m.flags && is_plainly_abstract m.flags
    && (not (form_at forms m.name).is_initializer || is_right_initializer class_flags m.flags (form_at forms m.descriptor).method)
    && are_named pool m.attributes && has_right_code pool m

-- ---- no two alike

-- two members have the same name and the same descriptor
abbrev pub same_member : List Entry → Member → Member → Bool
same_member pool m n = pointwise nat_eq (text_at pool m.name) (text_at pool n.name) && pointwise nat_eq (text_at pool m.descriptor) (text_at pool n.descriptor)

-- no two members do (4.5, 4.6)
abbrev pub are_distinct : List Entry → List Member → Bool
are_distinct pool [] = true
are_distinct pool (m ∷ members) = not (list_any (same_member pool m) members) && are_distinct pool members

-- ---- all of them

-- this, the superclass if there is one, and the interfaces are classes and no array classes (4.1)
abbrev pub has_right_classes : List Entry → List Form → ClassFile → Bool
has_right_classes pool forms c =
    names_class forms (entry_at pool c.this_class)
    && (c.super_class == 0 || names_class forms (entry_at pool c.super_class))
    && list_all (λ i. names_class forms (entry_at pool i)) c.interfaces

abbrev pub have_right_members : List Form → ClassFile → Bool
have_right_members forms c =
    list_all (is_right_field c.pool forms c.flags) c.fields && list_all (is_right_method c.pool forms c.flags) c.methods && are_named c.pool c.attributes

abbrev pub have_distinct : ClassFile → Bool
have_distinct c = are_distinct c.pool c.fields && are_distinct c.pool c.methods

abbrev pub are_right : List Form → ClassFile → Bool
are_right forms c = list_all (names_rightly c.pool forms) c.pool && has_right_classes c.pool forms c && has_class_flags c.flags && have_right_members forms c

abbrev pub passes : List Form → ClassFile → Bool
passes forms c = are_right forms c && have_distinct c

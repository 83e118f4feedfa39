-- The plans of the core classes are right.
use Rattle.std.proofs.Common.{◌≡◌, ℕ, zero, suc, ◌*◌, ◌/◌, ◌^◌, ◌<◌, ◌≤◌, ◌==◌, true, false, List, [], ◌∷◌, ◌++◌, length, get_or, map, Some, refl, sym, ap, subst, ◌∙◌, arith, lit<, lit≤, eq-eqb}
use Rattle.std.specs.Prelude.{codes, bit_and}
use Rattle.std.specs.List.{flat_map, AllByRecursion}
use Rattle.class_pool.specs.Structure.{IsHalf}
use Rattle.class_rules.specs.Flags.{acc_interface}
use Rattle.class_pool.specs.declared.class.ClassFile.{ClassFile}
use Rattle.descriptors.specs.Names.{is_class_name}
use Rattle.class_rules.specs.Rules.{IsClassName}
use Rattle.class_rules.specs.Grammar.{IsClass}
use Rattle.class_making.specs.declared.item.Item.{Item}
use Rattle.class_making.specs.declared.item.Item.TheVariants.{Text, Class, Field, Method}
use Rattle.class_making.specs.declared.plan.ClassPlan.{ClassPlan}
use Rattle.class_making.specs.declared.plan.FieldPlan.{FieldPlan}
use Rattle.class_making.specs.declared.plan.MethodPlan.{MethodPlan}
use Rattle.class_making.specs.Plans.{plan_mentions, field_mentions, method_mentions, bare_class, items_of, class_of}
use Rattle.class_making.specs.Right.{IsPoolText, IsRightMention, IsRightFieldPlan, IsRightMethodPlan, PlanSignature, method_signature, HaveOwnSignatures, IsRightPlan}
use Rattle.class_making.specs.Laws.{PlansAreClasses, HasBytes, PlansHaveBytes, ItemsAreFew}
use Rattle.core_classes.specs.Laws.{CoreClassesAreClasses, CoreHasBytes}
use Rattle.core_classes.specs.Core.{object_name, string_name, throwable_name, open_class, abstract_class, final_class, serializable_class, empty_init, object_plan, interface_plan, chars_field as chars_plan, length_method, char_at_method, string_plan, plain_init, message_field, keeping_init, get_message_method, throwable_plan, handing_init, error_plan, error_plans, read_method, write_method, io_plan, first_plans, core_plans, core}
use Rattle.core_classes.proofs.RightLemmas.{fits_pool, pool_text, chars_field, string_field, nothing_types, takes_string_types, gives_int_types, takes_int_types, char_at_types, gives_string_types, is_method, text_right, class_right, field_right, method_right, public_access, private_access, plain_method, init_method, private_field}

-- ---- texts

init_text : IsPoolText (codes "<init>")
init_text = pool_text (codes "<init>") refl

nothing_text : IsPoolText (codes "()V")
nothing_text = pool_text (codes "()V") refl

string_text : IsPoolText (codes "(Ljava/lang/String;)V")
string_text = pool_text (codes "(Ljava/lang/String;)V") refl

code_right : IsRightMention (Text (codes "Code"))
code_right = text_right (codes "Code") (pool_text (codes "Code") refl)

-- a class that can be named
abbrev pub Named : List ℕ → Type 0
Named name = IsClassName name × IsPoolText name

object_named : Named object_name
object_named = (refl, pool_text object_name refl)

string_named : Named string_name
string_named = (refl, pool_text string_name refl)

throwable_named : Named throwable_name
throwable_named = (refl, pool_text throwable_name refl)

serializable_named : Named (codes "java/io/Serializable")
serializable_named = (refl, pool_text (codes "java/io/Serializable") refl)

named_right : (name : List ℕ) → Named name → IsRightMention (Class name)
named_right name n = class_right name n.0 n.1

init_right : (owner : List ℕ) → Named owner → IsRightMention (Method owner (codes "<init>") (codes "()V"))
init_right owner n = method_right owner (codes "<init>") (codes "()V") n.0 n.1 refl init_text (is_method (codes "()V") nothing_types) nothing_text

string_init_right : (owner : List ℕ) → Named owner → IsRightMention (Method owner (codes "<init>") (codes "(Ljava/lang/String;)V"))
string_init_right owner n = method_right owner (codes "<init>") (codes "(Ljava/lang/String;)V") n.0 n.1 refl init_text (is_method (codes "(Ljava/lang/String;)V") takes_string_types) string_text

chars_right : IsRightMention (Field string_name (codes "chars") (codes "[C"))
chars_right = field_right string_name (codes "chars") (codes "[C") string_named.0 string_named.1 refl (pool_text (codes "chars") refl) chars_field (pool_text (codes "[C") refl)

message_right : IsRightMention (Field throwable_name (codes "message") (codes "Ljava/lang/String;"))
message_right = field_right throwable_name (codes "message") (codes "Ljava/lang/String;") throwable_named.0 throwable_named.1 refl (pool_text (codes "message") refl) string_field (pool_text (codes "Ljava/lang/String;") refl)

-- ---- methods: what each mentions, and that it is right in a class of flags without ACC_INTERFACE

abbrev Mentions : MethodPlan → Type 0
Mentions m = AllByRecursion IsRightMention (method_mentions m)

empty_mentions : Mentions empty_init
unfolding empty_init
empty_mentions = (text_right (codes "<init>") init_text, (text_right (codes "()V") nothing_text, (code_right, tt)))

empty_right : (class_flags : ℕ) → bit_and class_flags acc_interface ≡ 0 → IsRightMethodPlan class_flags empty_init
unfolding empty_init
empty_right class_flags of_class =
    init_method class_flags (codes "()V") 0 1 _ of_class nothing_types refl (record { max_stack = lit< tt; max_locals = lit< tt; not_empty = lit≤ tt; not_long = lit≤ tt; pieces = (lit< tt, tt); stack_map = tt })

plain_mentions : (superclass : List ℕ) → Named superclass → Mentions (plain_init superclass)
unfolding plain_init
plain_mentions superclass n = (text_right (codes "<init>") init_text, (text_right (codes "()V") nothing_text, (code_right, (init_right superclass n, tt))))

plain_right : (class_flags : ℕ) (superclass : List ℕ) → bit_and class_flags acc_interface ≡ 0 → IsRightMethodPlan class_flags (plain_init superclass)
unfolding plain_init
plain_right class_flags superclass of_class =
    init_method class_flags (codes "()V") 1 1 _ of_class nothing_types refl (record { max_stack = lit< tt; max_locals = lit< tt; not_empty = lit≤ tt; not_long = lit≤ tt; pieces = (lit< tt, (lit< tt, (tt, (lit< tt, tt)))); stack_map = tt })

handing_mentions : (superclass : List ℕ) → Named superclass → Mentions (handing_init superclass)
unfolding handing_init
handing_mentions superclass n = (text_right (codes "<init>") init_text, (text_right (codes "(Ljava/lang/String;)V") string_text, (code_right, (string_init_right superclass n, tt))))

handing_right : (class_flags : ℕ) (superclass : List ℕ) → bit_and class_flags acc_interface ≡ 0 → IsRightMethodPlan class_flags (handing_init superclass)
unfolding handing_init
handing_right class_flags superclass of_class =
    init_method class_flags (codes "(Ljava/lang/String;)V") 2 2 _ of_class takes_string_types refl (record { max_stack = lit< tt; max_locals = lit< tt; not_empty = lit≤ tt; not_long = lit≤ tt; pieces = (lit< tt, (lit< tt, (lit< tt, (tt, (lit< tt, tt))))); stack_map = tt })

keeping_mentions : Mentions keeping_init
unfolding keeping_init
keeping_mentions = (text_right (codes "<init>") init_text, (text_right (codes "(Ljava/lang/String;)V") string_text, (code_right, (init_right object_name object_named, (message_right, tt)))))

keeping_right : IsRightMethodPlan open_class keeping_init
unfolding keeping_init
keeping_right =
    init_method open_class (codes "(Ljava/lang/String;)V") 2 2 _ refl takes_string_types refl (record { max_stack = lit< tt; max_locals = lit< tt; not_empty = lit≤ tt; not_long = lit≤ tt; pieces = (lit< tt, (lit< tt, (tt, (lit< tt, (lit< tt, (lit< tt, (tt, (lit< tt, tt)))))))); stack_map = tt })

get_message_mentions : Mentions get_message_method
unfolding get_message_method
get_message_mentions =
    (text_right (codes "getMessage") (pool_text (codes "getMessage") refl), (text_right (codes "()Ljava/lang/String;") (pool_text (codes "()Ljava/lang/String;") refl), (code_right, (message_right, tt))))

get_message_right : IsRightMethodPlan open_class get_message_method
unfolding get_message_method
get_message_right =
    plain_method open_class 0x0001 (codes "getMessage") (codes "()Ljava/lang/String;") 1 1 _ (lit< tt) (refl, refl) refl gives_string_types (public_access 0x0001 refl refl) refl refl
    (record { max_stack = lit< tt; max_locals = lit< tt; not_empty = lit≤ tt; not_long = lit≤ tt; pieces = (lit< tt, (lit< tt, (tt, (lit< tt, tt)))); stack_map = tt })

length_mentions : Mentions length_method
unfolding length_method
length_mentions = (text_right (codes "length") (pool_text (codes "length") refl), (text_right (codes "()I") (pool_text (codes "()I") refl), (code_right, (chars_right, tt))))

length_right : IsRightMethodPlan final_class length_method
unfolding length_method
length_right =
    plain_method final_class 0x0001 (codes "length") (codes "()I") 1 1 _ (lit< tt) (refl, refl) refl gives_int_types (public_access 0x0001 refl refl) refl refl
    (record { max_stack = lit< tt; max_locals = lit< tt; not_empty = lit≤ tt; not_long = lit≤ tt; pieces = (lit< tt, (lit< tt, (tt, (lit< tt, (lit< tt, tt))))); stack_map = tt })

char_at_mentions : Mentions char_at_method
unfolding char_at_method
char_at_mentions = (text_right (codes "charAt") (pool_text (codes "charAt") refl), (text_right (codes "(I)C") (pool_text (codes "(I)C") refl), (code_right, (chars_right, tt))))

char_at_right : IsRightMethodPlan final_class char_at_method
unfolding char_at_method
char_at_right =
    plain_method final_class 0x0001 (codes "charAt") (codes "(I)C") 2 2 _ (lit< tt) (refl, refl) refl char_at_types (public_access 0x0001 refl refl) refl refl
    (record { max_stack = lit< tt; max_locals = lit< tt; not_empty = lit≤ tt; not_long = lit≤ tt; pieces = (lit< tt, (lit< tt, (tt, (lit< tt, (lit< tt, (lit< tt, tt)))))); stack_map = tt })

read_mentions : Mentions read_method
unfolding read_method
read_mentions = (text_right (codes "read") (pool_text (codes "read") refl), (text_right (codes "()I") (pool_text (codes "()I") refl), (code_right, tt)))

read_right : IsRightMethodPlan final_class read_method
unfolding read_method
read_right =
    plain_method final_class 0x0009 (codes "read") (codes "()I") 1 0 _ (lit< tt) (refl, refl) refl gives_int_types (public_access 0x0009 refl refl) refl refl
    (record { max_stack = lit< tt; max_locals = lit< tt; not_empty = lit≤ tt; not_long = lit≤ tt; pieces = (lit< tt, (lit< tt, tt)); stack_map = tt })

write_mentions : Mentions write_method
unfolding write_method
write_mentions = (text_right (codes "write") (pool_text (codes "write") refl), (text_right (codes "(I)V") (pool_text (codes "(I)V") refl), (code_right, tt)))

write_right : IsRightMethodPlan final_class write_method
unfolding write_method
write_right =
    plain_method final_class 0x0009 (codes "write") (codes "(I)V") 1 1 _ (lit< tt) (refl, refl) refl takes_int_types (public_access 0x0009 refl refl) refl refl
    (record { max_stack = lit< tt; max_locals = lit< tt; not_empty = lit≤ tt; not_long = lit≤ tt; pieces = (lit< tt, (lit< tt, (lit< tt, tt))); stack_map = tt })

-- ---- plans

-- a class with neither superinterfaces nor fields, whose superclass is one that can be named
pub bare_right : (few : ItemsAreFew) (flags : ℕ) (name superclass : List ℕ) (methods : List MethodPlan) → IsHalf flags → bit_and flags acc_interface ≡ 0 → Named name → Named superclass
    → 6 * length (plan_mentions (bare_class flags name (Some superclass) methods)) ≤ 65534 → length methods < 2 ^ 16
    → AllByRecursion IsRightMention (flat_map method_mentions methods) → AllByRecursion (IsRightMethodPlan flags) methods → HaveOwnSignatures method_signature methods
    → IsRightPlan (bare_class flags name (Some superclass) methods)
bare_right few flags name superclass methods half of_class named above room count mentions right distinct = record {
  mentions = (named_right name named, (named_right superclass above, mentions));
  room = omega (arith, few (bare_class flags name (Some superclass) methods), room);
  oldest = lit≤ tt;
  newest = lit≤ tt;
  flags = half;
  of_interface = λ h. absurd (h of_class);
  name = named.0;
  superclass = (above.0, tt);
  interfaces = tt;
  few_interfaces = lit< tt;
  fields = tt;
  few_fields = lit< tt;
  distinct_fields = tt;
  methods = right;
  few_methods = count;
  distinct_methods = distinct;
}

-- members of different descriptors
apart : (s t : PlanSignature) → (length s.1 == length t.1) ≡ false → ¬ (s ≡ t)
apart s t differ e = absurd (let f : false ≡ true = sym differ ∙ eq-eqb (length s.1) (length t.1) (ap (λ (u : PlanSignature). length u.1) e) in cc)

pub joined : (xs ys : List Item) → AllByRecursion IsRightMention xs → AllByRecursion IsRightMention ys → AllByRecursion IsRightMention (xs ++ ys)
joined [] ys p q = q
joined (x ∷ xs) ys p q = (p.0, joined xs ys p.1 q)

object_right : (few : ItemsAreFew) → IsRightPlan object_plan
unfolding object_plan empty_init
object_right few = record {
  mentions = (named_right object_name object_named, joined (method_mentions empty_init) [] empty_mentions tt);
  room = omega (arith, few object_plan);
  oldest = lit≤ tt;
  newest = lit≤ tt;
  flags = lit< tt;
  of_interface = λ h. absurd (h refl);
  name = refl;
  superclass = tt;
  interfaces = tt;
  few_interfaces = lit< tt;
  fields = tt;
  few_fields = lit< tt;
  distinct_fields = tt;
  methods = (empty_right open_class refl, tt);
  few_methods = lit< tt;
  distinct_methods = (tt, tt);
}

interface_right : (few : ItemsAreFew) (name : List ℕ) → Named name → IsRightPlan (interface_plan name)
unfolding interface_plan
interface_right few name named = record {
  mentions = (named_right name named, (named_right object_name object_named, tt));
  room = omega (arith, few (interface_plan name));
  oldest = lit≤ tt;
  newest = lit≤ tt;
  flags = lit< tt;
  of_interface = λ h e. absurd (let f : 1 ≡ 0 = ap (λ (n : ℕ). n / 1024) e in omega arith);
  name = named.0;
  superclass = (object_named.0, tt);
  interfaces = tt;
  few_interfaces = lit< tt;
  fields = tt;
  few_fields = lit< tt;
  distinct_fields = tt;
  methods = tt;
  few_methods = lit< tt;
  distinct_methods = tt;
}

-- a serializable class with a private field
serializable_right : (few : ItemsAreFew) (flags : ℕ) (name : List ℕ) (field : FieldPlan) (methods : List MethodPlan) → IsHalf flags → bit_and flags acc_interface ≡ 0 → Named name
    → AllByRecursion IsRightMention (field_mentions field) → IsRightFieldPlan flags field
    → 6 * length (plan_mentions (serializable_class flags name field methods)) ≤ 65534 → length methods < 2 ^ 16
    → AllByRecursion IsRightMention (flat_map method_mentions methods) → AllByRecursion (IsRightMethodPlan flags) methods → HaveOwnSignatures method_signature methods
    → IsRightPlan (serializable_class flags name field methods)
serializable_right few flags name field methods half of_class named field_right typed room count mentions right distinct = record {
  mentions = (named_right name named, (named_right object_name object_named, (named_right (codes "java/io/Serializable") serializable_named, (field_right.0, (field_right.1.0, mentions)))));
  room = omega (arith, few (serializable_class flags name field methods), room);
  oldest = lit≤ tt;
  newest = lit≤ tt;
  flags = half;
  of_interface = λ h. absurd (h of_class);
  name = named.0;
  superclass = (object_named.0, tt);
  interfaces = (serializable_named.0, tt);
  few_interfaces = lit< tt;
  fields = (typed, tt);
  few_fields = lit< tt;
  distinct_fields = (tt, tt);
  methods = right;
  few_methods = count;
  distinct_methods = distinct;
}

string_right : (few : ItemsAreFew) → IsRightPlan string_plan
unfolding string_plan length_method char_at_method
string_right few =
    serializable_right few final_class string_name chars_plan (length_method ∷ char_at_method ∷ []) (lit< tt) refl string_named
    (text_right (codes "chars") (pool_text (codes "chars") refl), (text_right (codes "[C") (pool_text (codes "[C") refl), tt))
    (private_field final_class 0x0012 (codes "chars") (codes "[C") refl (lit< tt) refl chars_field (private_access 0x0012 refl refl))
    (lit≤ tt) (lit< tt)
    (joined (method_mentions length_method) (method_mentions char_at_method ++ []) length_mentions (joined (method_mentions char_at_method) [] char_at_mentions tt))
    (length_right, (char_at_right, tt))
    ((apart (method_signature length_method) (method_signature char_at_method) refl, tt), (tt, tt))

throwable_right : (few : ItemsAreFew) → IsRightPlan throwable_plan
unfolding throwable_plan plain_init keeping_init get_message_method
throwable_right few =
    let plain : MethodPlan = plain_init object_name in
    serializable_right few open_class throwable_name message_field (plain_init object_name ∷ keeping_init ∷ get_message_method ∷ []) (lit< tt) refl throwable_named
    (text_right (codes "message") (pool_text (codes "message") refl), (text_right (codes "Ljava/lang/String;") (pool_text (codes "Ljava/lang/String;") refl), tt))
    (private_field open_class 0x0002 (codes "message") (codes "Ljava/lang/String;") refl (lit< tt) refl string_field (private_access 0x0002 refl refl))
    (lit≤ tt) (lit< tt)
    (joined (method_mentions plain) (method_mentions keeping_init ++ (method_mentions get_message_method ++ [])) (plain_mentions object_name object_named)
    (joined (method_mentions keeping_init) (method_mentions get_message_method ++ []) keeping_mentions (joined (method_mentions get_message_method) [] get_message_mentions tt)))
    (plain_right open_class object_name refl, (keeping_right, (get_message_right, tt))) (
      (apart (method_signature plain) (method_signature keeping_init) refl, (apart (method_signature plain) (method_signature get_message_method) refl, tt)),
      ((apart (method_signature keeping_init) (method_signature get_message_method) refl, tt), (tt, tt)),
    )

error_right : (few : ItemsAreFew) (flags : ℕ) (name superclass : List ℕ) → IsHalf flags → bit_and flags acc_interface ≡ 0 → Named name → Named superclass → IsRightPlan (error_plan flags name superclass)
unfolding error_plan plain_init handing_init
error_right few flags name superclass half of_class named above =
    let plain : MethodPlan = plain_init superclass in
    let handing : MethodPlan = handing_init superclass in
    bare_right few flags name superclass (plain_init superclass ∷ handing_init superclass ∷ []) half of_class named above (lit≤ tt) (lit< tt)
    (joined (method_mentions plain) (method_mentions handing ++ []) (plain_mentions superclass above) (joined (method_mentions handing) [] (handing_mentions superclass above) tt))
    (plain_right flags superclass of_class, (handing_right flags superclass of_class, tt))
    ((apart (method_signature plain) (method_signature handing) refl, tt), (tt, tt))

io_right : (few : ItemsAreFew) → IsRightPlan io_plan
unfolding io_plan read_method write_method
io_right few =
    bare_right few final_class (codes "jop/Io") object_name (read_method ∷ write_method ∷ []) (lit< tt) refl (refl, pool_text (codes "jop/Io") refl) object_named (lit≤ tt) (lit< tt)
    (joined (method_mentions read_method) (method_mentions write_method ++ []) read_mentions (joined (method_mentions write_method) [] write_mentions tt))
    (read_right, (write_right, tt))
    ((apart (method_signature read_method) (method_signature write_method) refl, tt), (tt, tt))

-- ---- all of them

open_error : (few : ItemsAreFew) (name superclass : List ℕ) → is_class_name name ≡ true → fits_pool name ≡ true → is_class_name superclass ≡ true → fits_pool superclass ≡ true → IsRightPlan (error_plan open_class name superclass)
open_error few name superclass n p s q = error_right few open_class name superclass (lit< tt) refl (n, pool_text name p) (s, pool_text superclass q)

errors_right : (few : ItemsAreFew) → AllByRecursion IsRightPlan error_plans
unfolding error_plans
errors_right few = (
  open_error few (codes "java/lang/Exception") throwable_name refl refl refl refl,
  (
    open_error few (codes "java/lang/RuntimeException") (codes "java/lang/Exception") refl refl refl refl,
    (
      open_error few (codes "java/lang/Error") throwable_name refl refl refl refl,
      (
        open_error few (codes "java/lang/ArithmeticException") (codes "java/lang/RuntimeException") refl refl refl refl,
        (
          open_error few (codes "java/lang/ArrayStoreException") (codes "java/lang/RuntimeException") refl refl refl refl,
          (
            open_error few (codes "java/lang/ClassCastException") (codes "java/lang/RuntimeException") refl refl refl refl,
            (
              open_error few (codes "java/lang/IllegalArgumentException") (codes "java/lang/RuntimeException") refl refl refl refl,
              (
                open_error few (codes "java/lang/IllegalStateException") (codes "java/lang/RuntimeException") refl refl refl refl,
                (
                  open_error few (codes "java/lang/IndexOutOfBoundsException") (codes "java/lang/RuntimeException") refl refl refl refl,
                  (
                    open_error few (codes "java/lang/ArrayIndexOutOfBoundsException") (codes "java/lang/IndexOutOfBoundsException") refl refl refl refl,
                    (
                      open_error few (codes "java/lang/NegativeArraySizeException") (codes "java/lang/RuntimeException") refl refl refl refl,
                      (
                        open_error few (codes "java/lang/NullPointerException") (codes "java/lang/RuntimeException") refl refl refl refl,
                        (
                          open_error few (codes "java/lang/LinkageError") (codes "java/lang/Error") refl refl refl refl,
                          (
                            open_error few (codes "java/lang/IncompatibleClassChangeError") (codes "java/lang/LinkageError") refl refl refl refl,
                            (
                              error_right few abstract_class (codes "java/lang/VirtualMachineError") (codes "java/lang/Error") (lit< tt) refl (refl, pool_text (codes "java/lang/VirtualMachineError") refl) (refl, pool_text (codes "java/lang/Error") refl),
                              (
                                open_error few (codes "java/lang/OutOfMemoryError") (codes "java/lang/VirtualMachineError") refl refl refl refl,
                                (open_error few (codes "java/lang/StackOverflowError") (codes "java/lang/VirtualMachineError") refl refl refl refl, tt),
                              ),
                            ),
                          ),
                        ),
                      ),
                    ),
                  ),
                ),
              ),
            ),
          ),
        ),
      ),
    ),
  ),
)

append_right : (ps qs : List ClassPlan) → AllByRecursion IsRightPlan ps → AllByRecursion IsRightPlan qs → AllByRecursion IsRightPlan (ps ++ qs)
append_right [] qs p q = q
append_right (x ∷ ps) qs p q = (p.0, append_right ps qs p.1 q)

pub core_right : (few : ItemsAreFew) → AllByRecursion IsRightPlan core_plans
unfolding core_plans first_plans
core_right few =
    append_right first_plans (error_plans ++ io_plan ∷ []) (
      object_right few,
      (
        interface_right few (codes "java/io/Serializable") serializable_named,
        (interface_right few (codes "java/lang/Cloneable") (refl, pool_text (codes "java/lang/Cloneable") refl), (string_right few, (throwable_right few, tt))),
      ),
    )
    (append_right error_plans (io_plan ∷ []) (errors_right few) (io_right few, tt))

made_all : (P : ClassFile → Type 0) (ps : List ClassPlan) → ((p : ClassPlan) → IsRightPlan p → P (class_of p)) → AllByRecursion IsRightPlan ps → AllByRecursion P (map class_of ps)
made_all P [] f h = tt
made_all P (p ∷ ps) f h = (f p h.0, made_all P ps f h.1)

pub core_are_classes : (few : ItemsAreFew) → PlansAreClasses → CoreClassesAreClasses
unfolding core
core_are_classes few are = made_all IsClass core_plans are (core_right few)

pub core_has_bytes : (few : ItemsAreFew) → PlansHaveBytes → CoreHasBytes
unfolding core
core_has_bytes few have = made_all HasBytes core_plans have (core_right few)

room_of : (ps : List ClassPlan) (i : ℕ) (d : ClassPlan) → AllByRecursion IsRightPlan ps → i < length ps → length (items_of (get_or ps i d)) ≤ 65534
room_of [] i d h lt = absurd (omega arith)
room_of (p ∷ ps) zero d h lt = h.0.room
room_of (p ∷ ps) (suc i) d h lt = room_of ps i d h.1 (omega arith)

-- each plan of the core has room in its pool
pub core_room : (few : ItemsAreFew) (plans : List ClassPlan) (i : ℕ) (p : ClassPlan) → plans ≡ core_plans → i < length plans → p ≡ get_or plans i p → length (items_of p) ≤ 65534
core_room few plans i p is lt at =
    let all : AllByRecursion IsRightPlan plans = subst (λ (ps : List ClassPlan). AllByRecursion IsRightPlan ps) (sym is) (core_right few) in
    let room : length (items_of (get_or plans i p)) ≤ 65534 = room_of plans i p all lt in
    omega (arith, room, ap (λ (q : ClassPlan). length (items_of q)) at)

-- The core classes as the first classes of a program.
use Rattle.std.proofs.Common.{◌≡◌, ℕ, suc, ◌+◌, ◌-◌, Bool, true, false, List, [], ◌∷◌, ◌++◌, map, take, length, reverse, Option, Some, None, refl, sym, ap, ◌∙◌, subst, arith, append_assoc}
use Rattle.std.specs.Prelude.{IsTrue, ◌&&◌, slice_get}
use Rattle.std.specs.Option.{option_to_list}
use Rattle.std.specs.List.{list_all, flat_map}
use Rattle.std.proofs.lemmas.List.{append-nil, length-append}
use Rattle.lists.specs.Lists.{onto}
use Rattle.lists.specs.Numbers.{reached}
use Rattle.class_pool.specs.declared.class.Member.{Member}
use Rattle.class_pool.specs.declared.class.ClassFile.{ClassFile}
use Rattle.class_making.specs.Plans.{items_of, class_of}
use Rattle.core_classes.specs.Core.{empty_init, object_plan, interface_plan, length_method, char_at_method, string_plan, plain_init, keeping_init, get_message_method, throwable_plan, handing_init, error_plan, error_plans, read_method, write_method, io_plan, first_plans, core_plans, core}
use Rattle.bytecode_model.specs.Types.{OfNumbers, Reference, t_char}
use Rattle.bytecode_model.specs.Program.{serializable_class, cloneable_class, string_class, throwable_class}
use Rattle.class_lookup.specs.Parts.{Signature, name_of, signature_of, is_init}
use Rattle.class_lookup.specs.Hierarchy.{find_class, superclass, superinterfaces, is_interface, is_concrete, extends, superclasses, with_superinterfaces, supertypes}
use Rattle.class_lookup.specs.Lookup.{Place, method_at, find_field, find_method}
use Rattle.class_lookup.specs.Selection.{select, special}
use Rattle.descriptors.specs.Parsing.{primitive_in, split_in, class_in, element_in, type_from, types_in, field_in, result_in, method_in}
use Rattle.opcodes.specs.Row.{row_of}
use Rattle.opcodes.specs.Instruction.{decoded}
use Rattle.opcodes.specs.Start.{starts_of}
use Rattle.program_tables.specs.Core.{core_names, raised_classes}
use Rattle.program_tables.specs.Numbers.{own_instance_fields, instance_fields}
use Rattle.program_tables.specs.Instructions.{instructions_in}
use Rattle.program_tables.specs.Resolved.{declared_fields}
use Rattle.program_tables.specs.Unsupported.{unsupported_in}
use Rattle.core_classes.specs.Linkage.{CoreStandsFirst}
use Rattle.core_classes.proofs.Core.{core_long, object_has_no_interface}
use Rattle.core_classes.proofs.Below.{object_is_uppermost}

pub core_is_named : (others : List ClassFile) → take (length core_names) (map name_of (core ++ others)) ≡ core_names
unfolding empty_init object_plan interface_plan length_method char_at_method string_plan plain_init keeping_init get_message_method throwable_plan handing_init error_plan error_plans read_method write_method io_plan first_plans core_plans core items_of class_of superclasses with_superinterfaces supertypes find_field find_method select special primitive_in split_in class_in element_in type_from types_in field_in result_in method_in row_of decoded starts_of instructions_in unsupported_in
core_is_named others = refl

pub serializable_has_none : (others : List ClassFile) → superinterfaces (core ++ others) serializable_class ≡ []
unfolding empty_init object_plan interface_plan length_method char_at_method string_plan plain_init keeping_init get_message_method throwable_plan handing_init error_plan error_plans read_method write_method io_plan first_plans core_plans core items_of class_of superclasses with_superinterfaces supertypes find_field find_method select special primitive_in split_in class_in element_in type_from types_in field_in result_in method_in row_of decoded starts_of instructions_in unsupported_in
serializable_has_none others = refl

pub serializable_is_one : (others : List ClassFile) → is_interface (core ++ others) serializable_class ≡ true
unfolding empty_init object_plan interface_plan length_method char_at_method string_plan plain_init keeping_init get_message_method throwable_plan handing_init error_plan error_plans read_method write_method io_plan first_plans core_plans core items_of class_of superclasses with_superinterfaces supertypes find_field find_method select special primitive_in split_in class_in element_in type_from types_in field_in result_in method_in row_of decoded starts_of instructions_in unsupported_in
serializable_is_one others = refl

pub cloneable_has_none : (others : List ClassFile) → superinterfaces (core ++ others) cloneable_class ≡ []
unfolding empty_init object_plan interface_plan length_method char_at_method string_plan plain_init keeping_init get_message_method throwable_plan handing_init error_plan error_plans read_method write_method io_plan first_plans core_plans core items_of class_of superclasses with_superinterfaces supertypes find_field find_method select special primitive_in split_in class_in element_in type_from types_in field_in result_in method_in row_of decoded starts_of instructions_in unsupported_in
cloneable_has_none others = refl

pub cloneable_is_one : (others : List ClassFile) → is_interface (core ++ others) cloneable_class ≡ true
unfolding empty_init object_plan interface_plan length_method char_at_method string_plan plain_init keeping_init get_message_method throwable_plan handing_init error_plan error_plans read_method write_method io_plan first_plans core_plans core items_of class_of superclasses with_superinterfaces supertypes find_field find_method select special primitive_in split_in class_in element_in type_from types_in field_in result_in method_in row_of decoded starts_of instructions_in unsupported_in
cloneable_is_one others = refl

pub strings_are_made : (others : List ClassFile) → is_concrete (core ++ others) string_class ≡ true
unfolding empty_init object_plan interface_plan length_method char_at_method string_plan plain_init keeping_init get_message_method throwable_plan handing_init error_plan error_plans read_method write_method io_plan first_plans core_plans core items_of class_of superclasses with_superinterfaces supertypes find_field find_method select special primitive_in split_in class_in element_in type_from types_in field_in result_in method_in row_of decoded starts_of instructions_in unsupported_in
strings_are_made others = refl

pub throwables_are_made : (others : List ClassFile) → is_concrete (core ++ others) throwable_class ≡ true
unfolding empty_init object_plan interface_plan length_method char_at_method string_plan plain_init keeping_init get_message_method throwable_plan handing_init error_plan error_plans read_method write_method io_plan first_plans core_plans core items_of class_of superclasses with_superinterfaces supertypes find_field find_method select special primitive_in split_in class_in element_in type_from types_in field_in result_in method_in row_of decoded starts_of instructions_in unsupported_in
throwables_are_made others = refl

pub errors_are_made : (others : List ClassFile) → list_all (λ c. is_concrete (core ++ others) c && extends (core ++ others) c throwable_class) raised_classes ≡ true
unfolding empty_init object_plan interface_plan length_method char_at_method string_plan plain_init keeping_init get_message_method throwable_plan handing_init error_plan error_plans read_method write_method io_plan first_plans core_plans core items_of class_of superclasses with_superinterfaces supertypes find_field find_method select special primitive_in split_in class_in element_in type_from types_in field_in result_in method_in row_of decoded starts_of instructions_in unsupported_in
errors_are_made others = refl

pub string_below_object : (others : List ClassFile) → superclass (core ++ others) string_class ≡ Some 0
unfolding empty_init object_plan interface_plan length_method char_at_method string_plan plain_init keeping_init get_message_method throwable_plan handing_init error_plan error_plans read_method write_method io_plan first_plans core_plans core items_of class_of superclasses with_superinterfaces supertypes find_field find_method select special primitive_in split_in class_in element_in type_from types_in field_in result_in method_in row_of decoded starts_of instructions_in unsupported_in
string_below_object others = refl

pub object_fields : (others : List ClassFile) → own_instance_fields (core ++ others) 0 ≡ []
unfolding empty_init object_plan interface_plan length_method char_at_method string_plan plain_init keeping_init get_message_method throwable_plan handing_init error_plan error_plans read_method write_method io_plan first_plans core_plans core items_of class_of superclasses with_superinterfaces supertypes find_field find_method select special primitive_in split_in class_in element_in type_from types_in field_in result_in method_in row_of decoded starts_of instructions_in unsupported_in
object_fields others = refl

pub string_fields : (others : List ClassFile) → declared_fields (core ++ others) (own_instance_fields (core ++ others) string_class) ≡ Reference (OfNumbers t_char) ∷ []
unfolding empty_init object_plan interface_plan length_method char_at_method string_plan plain_init keeping_init get_message_method throwable_plan handing_init error_plan error_plans read_method write_method io_plan first_plans core_plans core items_of class_of superclasses with_superinterfaces supertypes find_field find_method select special primitive_in split_in class_in element_in type_from types_in field_in result_in method_in row_of decoded starts_of instructions_in unsupported_in
string_fields others = refl

object_initializes : (others : List ClassFile) → list_all (λ (k : ClassFile). list_all (λ m. is_init (signature_of k m)) k.methods) (take 1 (core ++ others)) ≡ true
unfolding empty_init object_plan interface_plan length_method char_at_method string_plan plain_init keeping_init get_message_method throwable_plan handing_init error_plan error_plans read_method write_method io_plan first_plans core_plans core items_of class_of superclasses with_superinterfaces supertypes find_field find_method select special primitive_in split_in class_in element_in type_from types_in field_in result_in method_in row_of decoded starts_of instructions_in unsupported_in
object_initializes others = refl

core_behind_object : (xs : List ClassFile) (k : ClassFile) → slice_get xs 0 ≡ Some k → list_all (λ (x : ClassFile). list_all (λ m. is_init (signature_of x m)) x.methods) (take 1 xs) ≡ true
    → IsTrue (list_all (λ m. is_init (signature_of k m)) k.methods)
core_behind_object [] k at h = absurd (let f : None ≡ Some k = at in cc)
core_behind_object (x ∷ xs) k at h =
    let e : x ≡ k = cc in
    subst (λ (y : ClassFile). list_all (λ m. is_init (signature_of y m)) y.methods ≡ true) e (left (list_all (λ m. is_init (signature_of x m)) x.methods) h)
  where
    left : (b : Bool) → (b && true) ≡ true → b ≡ true
    left true h = h
    left false h = h

-- ---- the superclasses of the class Object, and of one directly below it

pub fuel : (others : List ClassFile) → length (core ++ others) ≡ suc (suc (21 + length others))
fuel others = let long = core_long in omega (arith, length-append core others)

one_above : (cs : List ClassFile) (n : ℕ) → superclass cs 0 ≡ None → reached (λ k. option_to_list (superclass cs k)) (suc n) 0 ≡ 0 ∷ []
one_above cs n top = ap (λ (o : Option ℕ). 0 ∷ flat_map (reached (λ k. option_to_list (superclass cs k)) n) (option_to_list o)) top

pub two_above : (cs : List ClassFile) (n c : ℕ) → superclass cs 0 ≡ None → superclass cs c ≡ Some 0 → reached (λ k. option_to_list (superclass cs k)) (suc (suc n)) c ≡ c ∷ 0 ∷ []
two_above cs n c top up =
    ap (λ (o : Option ℕ). c ∷ flat_map (reached (λ k. option_to_list (superclass cs k)) (suc n)) (option_to_list o)) up
    ∙ ap (λ (xs : List ℕ). c ∷ (xs ++ [])) (one_above cs n top)

object_alone : (others : List ClassFile) → find_class others [] ≡ None → superclasses (core ++ others) 0 ≡ 0 ∷ []
unfolding superclasses
object_alone others none =
    let cs = core ++ others in
    ap (λ (n : ℕ). reached (λ k. option_to_list (superclass cs k)) n 0) (fuel others) ∙ one_above cs (suc (21 + length others)) (object_is_uppermost others none)

string_and_object : (others : List ClassFile) → find_class others [] ≡ None → superclasses (core ++ others) string_class ≡ string_class ∷ 0 ∷ []
unfolding superclasses
string_and_object others none =
    let cs = core ++ others in
    ap (λ (n : ℕ). reached (λ k. option_to_list (superclass cs k)) n string_class) (fuel others) ∙ two_above cs (21 + length others) string_class (object_is_uppermost others none) (string_below_object others)

no_fields : (others : List ClassFile) → find_class others [] ≡ None → instance_fields (core ++ others) 0 ≡ []
no_fields others none =
    let cs = core ++ others in
    ap (λ (xs : List ℕ). flat_map (own_instance_fields cs) (reverse xs)) (object_alone others none) ∙ ap (λ (ys : List Place). ys ++ []) (object_fields others)

one_field : (others : List ClassFile) → find_class others [] ≡ None → declared_fields (core ++ others) (instance_fields (core ++ others) string_class) ≡ Reference (OfNumbers t_char) ∷ []
one_field others none =
    let cs = core ++ others in
    ap (λ (xs : List ℕ). declared_fields cs (flat_map (own_instance_fields cs) (reverse xs))) (string_and_object others none)
    ∙ (ap (λ (ys : List Place). declared_fields cs (ys ++ (own_instance_fields cs string_class ++ []))) (object_fields others)
    ∙ (ap (declared_fields cs) (append-nil (own_instance_fields cs string_class)) ∙ string_fields others))

-- ---- the last class

pub at_end : (xs : List ClassFile) (x : ClassFile) → slice_get (xs ++ x ∷ []) (length xs) ≡ Some x
at_end [] x = refl
at_end (y ∷ xs) x = at_end xs x

last_there : (cs xs : List ClassFile) (x : ClassFile) → cs ≡ xs ++ x ∷ [] → slice_get cs (length cs - 1) ≡ Some x
last_there cs xs x e =
    let n : length cs - 1 ≡ length xs = omega (arith, ap length e, length-append xs (x ∷ [])) in
    ap (slice_get cs) n ∙ (ap (λ (ys : List ClassFile). slice_get ys (length xs)) e ∙ at_end xs x)

pub core_stands_first : CoreStandsFirst
core_stands_first others last boot none at static is =
    let rest = others ++ last ∷ [] in
    let cs = core ++ rest in
    let end = last_there cs (core ++ others) last (sym (append_assoc core others (last ∷ []))) in
    let method : method_at cs (length cs - 1, 0) ≡ Some boot = ap (λ (o : Option ClassFile). onto o (λ k. slice_get k.methods 0)) end ∙ at in
    record {
      names = core_is_named rest;
      object = (object_is_uppermost rest none, object_has_no_interface rest, no_fields rest none);
      object_methods = λ k found. core_behind_object cs k found (object_initializes rest);
      serializable = (serializable_has_none rest, serializable_is_one rest);
      cloneable = (cloneable_has_none rest, cloneable_is_one rest);
      string = strings_are_made rest;
      chars = one_field rest none;
      throwable = throwables_are_made rest;
      raised = errors_are_made rest;
      last = (boot, method, static);
      descriptor =
          ap (λ (o : Option ClassFile). onto o (λ k. onto (method_at cs (length cs - 1, 0)) (λ m. Some (signature_of k m)))) end
          ∙ (ap (λ (o : Option Member). onto o (λ m. Some (signature_of last m))) method ∙ ap (λ (t : Signature). Some t) is);
    }

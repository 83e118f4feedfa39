-- The core classes, computed.
use Rattle.std.proofs.Common.{◌≡◌, true, false, not, ◌&&◌, ◌||◌, ◌==◌, List, [], ◌++◌, length, None, refl}
use Rattle.std.specs.Prelude.{is_none, nat_lt, nat_eq}
use Rattle.std.specs.List.{list_all, enumerate_from}
use Rattle.class_pool.specs.declared.class.ClassFile.{ClassFile}
use Rattle.class_making.specs.Plans.{items_of, class_of}
use Rattle.core_classes.specs.Core.{empty_init, object_plan, interface_plan, length_method, char_at_method, string_plan, plain_init, keeping_init, get_message_method, throwable_plan, handing_init, error_plan, error_plans, read_method, write_method, io_plan, first_plans, core_plans, core}
use Rattle.class_lookup.specs.Parts.{is_final, is_abstract}
use Rattle.class_lookup.specs.Hierarchy.{find_class, superclass, superinterfaces, is_interface, superclasses, with_superinterfaces, supertypes, direct_supertypes}
use Rattle.class_lookup.specs.Lookup.{find_field, find_method}
use Rattle.class_lookup.specs.Selection.{select, special}
use Rattle.descriptors.specs.Parsing.{primitive_in, split_in, class_in, element_in, type_from, types_in, field_in, result_in, method_in}
use Rattle.opcodes.specs.Row.{row_of}
use Rattle.opcodes.specs.Instruction.{decoded}
use Rattle.opcodes.specs.Start.{starts_of}
use Rattle.program_tables.specs.Instructions.{instructions_in}
use Rattle.program_tables.specs.Placed.{duplicate_of}
use Rattle.program_tables.specs.Unsupported.{unsupported_in}
use Rattle.core_classes.proofs.Tests.{has_good_supertypes, has_good_members, stands_badly}

pub names_are_free : (others : List ClassFile) → list_all (λ e. is_none (duplicate_of (core ++ others) e.0) && has_good_supertypes (core ++ others) e.0 e.1) (enumerate_from 0 core) ≡ true
unfolding empty_init object_plan interface_plan length_method char_at_method string_plan plain_init keeping_init get_message_method throwable_plan handing_init error_plan error_plans read_method write_method io_plan first_plans core_plans core items_of class_of superclasses with_superinterfaces supertypes find_field find_method select special primitive_in split_in class_in element_in type_from types_in field_in result_in method_in row_of decoded starts_of instructions_in unsupported_in
names_are_free others = refl

pub stand_well : (others : List ClassFile) → list_all (λ e. e.0 == 0 || not (stands_badly (core ++ others) e.0)) (enumerate_from 0 core) ≡ true
unfolding empty_init object_plan interface_plan length_method char_at_method string_plan plain_init keeping_init get_message_method throwable_plan handing_init error_plan error_plans read_method write_method io_plan first_plans core_plans core items_of class_of superclasses with_superinterfaces supertypes find_field find_method select special primitive_in split_in class_in element_in type_from types_in field_in result_in method_in row_of decoded starts_of instructions_in unsupported_in
stand_well others = refl

pub members_are_good : (others : List ClassFile) → list_all (λ e. has_good_members (core ++ others) e.0 e.1) (enumerate_from 0 core) ≡ true
unfolding empty_init object_plan interface_plan length_method char_at_method string_plan plain_init keeping_init get_message_method throwable_plan handing_init error_plan error_plans read_method write_method io_plan first_plans core_plans core items_of class_of superclasses with_superinterfaces supertypes find_field find_method select special primitive_in split_in class_in element_in type_from types_in field_in result_in method_in row_of decoded starts_of instructions_in unsupported_in
members_are_good others = refl

pub supertypes_stand_before : (others : List ClassFile) → list_all (λ e. e.0 == 0 || list_all (λ d. nat_lt d e.0) (direct_supertypes (core ++ others) e.0)) (enumerate_from 0 core) ≡ true
unfolding empty_init object_plan interface_plan length_method char_at_method string_plan plain_init keeping_init get_message_method throwable_plan handing_init error_plan error_plans read_method write_method io_plan first_plans core_plans core items_of class_of superclasses with_superinterfaces supertypes find_field find_method select special primitive_in split_in class_in element_in type_from types_in field_in result_in method_in row_of decoded starts_of instructions_in unsupported_in
supertypes_stand_before others = refl

pub core_long : length core ≡ 23
unfolding empty_init object_plan interface_plan length_method char_at_method string_plan plain_init keeping_init get_message_method throwable_plan handing_init error_plan error_plans read_method write_method io_plan first_plans core_plans core items_of class_of superclasses with_superinterfaces supertypes find_field find_method select special primitive_in split_in class_in element_in type_from types_in field_in result_in method_in row_of decoded starts_of instructions_in unsupported_in
core_long = refl

pub nameless_core : find_class core [] ≡ None
unfolding empty_init object_plan interface_plan length_method char_at_method string_plan plain_init keeping_init get_message_method throwable_plan handing_init error_plan error_plans read_method write_method io_plan first_plans core_plans core items_of class_of superclasses with_superinterfaces supertypes find_field find_method select special primitive_in split_in class_in element_in type_from types_in field_in result_in method_in row_of decoded starts_of instructions_in unsupported_in
nameless_core = refl

pub object_bears_no_name : (others : List ClassFile) → superclass (core ++ others) 0 ≡ find_class (core ++ others) []
unfolding empty_init object_plan interface_plan length_method char_at_method string_plan plain_init keeping_init get_message_method throwable_plan handing_init error_plan error_plans read_method write_method io_plan first_plans core_plans core items_of class_of superclasses with_superinterfaces supertypes find_field find_method select special primitive_in split_in class_in element_in type_from types_in field_in result_in method_in row_of decoded starts_of instructions_in unsupported_in
object_bears_no_name others = refl

pub object_has_no_interface : (others : List ClassFile) → superinterfaces (core ++ others) 0 ≡ []
unfolding empty_init object_plan interface_plan length_method char_at_method string_plan plain_init keeping_init get_message_method throwable_plan handing_init error_plan error_plans read_method write_method io_plan first_plans core_plans core items_of class_of superclasses with_superinterfaces supertypes find_field find_method select special primitive_in split_in class_in element_in type_from types_in field_in result_in method_in row_of decoded starts_of instructions_in unsupported_in
object_has_no_interface others = refl

pub object_is_no_interface : (others : List ClassFile) → is_interface (core ++ others) 0 ≡ false
unfolding empty_init object_plan interface_plan length_method char_at_method string_plan plain_init keeping_init get_message_method throwable_plan handing_init error_plan error_plans read_method write_method io_plan first_plans core_plans core items_of class_of superclasses with_superinterfaces supertypes find_field find_method select special primitive_in split_in class_in element_in type_from types_in field_in result_in method_in row_of decoded starts_of instructions_in unsupported_in
object_is_no_interface others = refl

pub members_are_plain : list_all (λ k. list_all (λ m. not (is_final m) && not (is_abstract m)) k.methods) core ≡ true
unfolding empty_init object_plan interface_plan length_method char_at_method string_plan plain_init keeping_init get_message_method throwable_plan handing_init error_plan error_plans read_method write_method io_plan first_plans core_plans core items_of class_of superclasses with_superinterfaces supertypes find_field find_method select special primitive_in split_in class_in element_in type_from types_in field_in result_in method_in row_of decoded starts_of instructions_in unsupported_in
members_are_plain = refl

pub all_are_supported : list_all (λ k. nat_eq (length (unsupported_in k)) 0) core ≡ true
unfolding empty_init object_plan interface_plan length_method char_at_method string_plan plain_init keeping_init get_message_method throwable_plan handing_init error_plan error_plans read_method write_method io_plan first_plans core_plans core items_of class_of superclasses with_superinterfaces supertypes find_field find_method select special primitive_in split_in class_in element_in type_from types_in field_in result_in method_in row_of decoded starts_of instructions_in unsupported_in
all_are_supported = refl

-- What the class that is run finds in the core classes, computed.
use Rattle.std.proofs.Common.{◌≡◌, true, false, not, List, [], ◌++◌, Some, refl}
use Rattle.std.specs.Prelude.{slice_get, codes}
use Rattle.std.specs.Option.{option_map_or}
use Rattle.class_pool.specs.declared.class.ClassFile.{ClassFile}
use Rattle.class_making.specs.Plans.{items_of, class_of}
use Rattle.core_classes.specs.Core.{object_name, string_name, empty_init, object_plan, interface_plan, length_method, char_at_method, string_plan, plain_init, keeping_init, get_message_method, throwable_plan, handing_init, error_plan, error_plans, read_method, write_method, io_plan, first_plans, core_plans, core}
use Rattle.class_lookup.specs.Hierarchy.{find_class, superclasses, with_superinterfaces, supertypes}
use Rattle.class_lookup.specs.Lookup.{find_field, find_method}
use Rattle.class_lookup.specs.Selection.{select, special}
use Rattle.descriptors.specs.Parsing.{primitive_in, split_in, class_in, element_in, type_from, types_in, field_in, result_in, method_in}
use Rattle.opcodes.specs.Row.{row_of}
use Rattle.opcodes.specs.Instruction.{decoded}
use Rattle.opcodes.specs.Start.{starts_of}
use Rattle.program_tables.specs.Instructions.{instructions_in}
use Rattle.program_tables.specs.Kinds.{classes_in_method_descriptor}
use Rattle.program_tables.specs.Placed.{may_have_subclasses}
use Rattle.program_tables.specs.Unresolved.{is_there, are_there}
use Rattle.program_tables.specs.Unsupported.{unsupported_in}

pub object_is_first : (others : List ClassFile) → find_class (core ++ others) object_name ≡ Some 0
unfolding empty_init object_plan interface_plan length_method char_at_method string_plan plain_init keeping_init get_message_method throwable_plan handing_init error_plan error_plans read_method write_method io_plan first_plans core_plans core items_of class_of superclasses with_superinterfaces supertypes find_field find_method select special primitive_in split_in class_in element_in type_from types_in field_in result_in method_in row_of decoded starts_of instructions_in unsupported_in
object_is_first others = refl

pub object_may_be_extended : (others : List ClassFile) → option_map_or (λ (k : ClassFile). not (may_have_subclasses k)) (slice_get (core ++ others) 0) false ≡ false
unfolding empty_init object_plan interface_plan length_method char_at_method string_plan plain_init keeping_init get_message_method throwable_plan handing_init error_plan error_plans read_method write_method io_plan first_plans core_plans core items_of class_of superclasses with_superinterfaces supertypes find_field find_method select special primitive_in split_in class_in element_in type_from types_in field_in result_in method_in row_of decoded starts_of instructions_in unsupported_in
object_may_be_extended others = refl

pub strings_are_there : (others : List ClassFile) → is_there (core ++ others) string_name ≡ true
unfolding empty_init object_plan interface_plan length_method char_at_method string_plan plain_init keeping_init get_message_method throwable_plan handing_init error_plan error_plans read_method write_method io_plan first_plans core_plans core items_of class_of superclasses with_superinterfaces supertypes find_field find_method select special primitive_in split_in class_in element_in type_from types_in field_in result_in method_in row_of decoded starts_of instructions_in unsupported_in
strings_are_there others = refl

pub taken_by_main : (others : List ClassFile) → are_there (core ++ others) (classes_in_method_descriptor (codes "([Ljava/lang/String;)V")) ≡ true
unfolding empty_init object_plan interface_plan length_method char_at_method string_plan plain_init keeping_init get_message_method throwable_plan handing_init error_plan error_plans read_method write_method io_plan first_plans core_plans core items_of class_of superclasses with_superinterfaces supertypes find_field find_method select special primitive_in split_in class_in element_in type_from types_in field_in result_in method_in row_of decoded starts_of instructions_in unsupported_in
taken_by_main others = refl

pub taken_by_nothing : (cs : List ClassFile) → classes_in_method_descriptor (codes "()V") ≡ []
unfolding primitive_in split_in class_in element_in type_from types_in field_in result_in method_in
taken_by_nothing cs = refl

-- The methods of the core classes.
use Rattle.std.proofs.Common.{◌≡◌, ℕ, zero, suc, ◌+◌, ◌<◌, ◌≤◌, Bool, true, false, cond, List, [], ◌∷◌, ◌++◌, length, reverse, Option, Some, None, inl, inr, not, refl, sym, ap, ◌∙◌, arith}
use Rattle.std.specs.Prelude.{is_none, slice_get}
use Rattle.std.specs.Option.{option_to_list, option_map_or}
use Rattle.std.specs.List.{list_all, range_with_len, flat_map, filter, enumerate_from}
use Rattle.std.proofs.lemmas.Bool.{cases_lt}
use Rattle.core_classes.proofs.First.{fuel, two_above}
use Rattle.core_classes.proofs.Below.{object_is_uppermost}
use Rattle.core_classes.proofs.Tests.{none_of}
use Rattle.lists.specs.Lists.{onto, index_of}
use Rattle.lists.specs.Numbers.{reached}
use Rattle.class_pool.specs.declared.class.ClassFile.{ClassFile}
use Rattle.class_making.specs.Plans.{items_of, class_of}
use Rattle.core_classes.specs.Core.{empty_init, object_plan, interface_plan, length_method, char_at_method, string_plan, plain_init, keeping_init, get_message_method, throwable_plan, handing_init, error_plan, error_plans, read_method, write_method, io_plan, first_plans, core_plans, core}
use Rattle.class_lookup.specs.Hierarchy.{find_class, superclass, superclasses, with_superinterfaces, supertypes}
use Rattle.class_lookup.specs.Lookup.{Place, same_place, find_field, find_method}
use Rattle.class_lookup.specs.Selection.{select, special}
use Rattle.descriptors.specs.Parsing.{primitive_in, split_in, class_in, element_in, type_from, types_in, field_in, result_in, method_in}
use Rattle.opcodes.specs.Row.{row_of}
use Rattle.opcodes.specs.Entry.{entry_row}
use Rattle.opcodes.specs.Instruction.{decoded}
use Rattle.opcodes.specs.Start.{starts_of, first_bad}
use Rattle.bytecode_model.specs.Types.{Declared, Reference, OfClass, OfNumbers}
use Rattle.bytecode_model.specs.Program.{AField, AMethod, NoOperand}
use Rattle.bytecode_model.specs.Table.{row_of as meaning_of}
use Rattle.frame_types.specs.Frames.{frames_of}
use Rattle.frame_types.specs.Locals.{first_locals}
use Rattle.frame_types.specs.Table.{table_in}
use Rattle.program_tables.specs.Numbers.{methods_by_number, is_coded, instance_fields, own_instance_fields}
use Rattle.program_tables.specs.Resolved.{resolved, declared_fields}
use Rattle.bytecode_verifier.specs.Failure.{method_failure}
use Rattle.bytecode_verifier.specs.CoreLaws.{CoreIsVerified}
use Rattle.bytecode_verifier.proofs.CoreNumbers.{all_in_range, places_in, past_front, all_numbered_behind}
use Rattle.bytecode_verifier.proofs.CoreWalks.{passes, length_walks, char_at_walks, keeping_walks, get_message_walks, length_body, char_at_body, keeping_body, get_message_body, length_here, char_at_here, keeping_here, get_message_here}

object_init : (others : List ClassFile) → method_failure (core ++ others) 0 ≡ None
unfolding empty_init object_plan interface_plan length_method char_at_method string_plan plain_init keeping_init get_message_method throwable_plan handing_init error_plan error_plans read_method write_method io_plan first_plans core_plans core items_of class_of superclasses with_superinterfaces supertypes find_field find_method select special primitive_in split_in class_in element_in type_from types_in field_in result_in method_in row_of entry_row decoded starts_of first_bad meaning_of frames_of first_locals table_in methods_by_number method_failure
object_init others = refl

-- ---- fields

core_long : length core ≡ 23
unfolding empty_init object_plan interface_plan length_method char_at_method string_plan plain_init keeping_init get_message_method throwable_plan handing_init error_plan error_plans read_method write_method io_plan first_plans core_plans core items_of class_of superclasses with_superinterfaces supertypes find_field find_method select special primitive_in split_in class_in element_in type_from types_in field_in result_in method_in row_of entry_row decoded starts_of first_bad meaning_of frames_of first_locals table_in methods_by_number method_failure
core_long = refl

nameless_core : find_class core [] ≡ None
unfolding empty_init object_plan interface_plan length_method char_at_method string_plan plain_init keeping_init get_message_method throwable_plan handing_init error_plan error_plans read_method write_method io_plan first_plans core_plans core items_of class_of superclasses with_superinterfaces supertypes find_field find_method select special primitive_in split_in class_in element_in type_from types_in field_in result_in method_in row_of entry_row decoded starts_of first_bad meaning_of frames_of first_locals table_in methods_by_number method_failure
nameless_core = refl

object_bears_no_name : (others : List ClassFile) → superclass (core ++ others) 0 ≡ find_class (core ++ others) []
unfolding empty_init object_plan interface_plan length_method char_at_method string_plan plain_init keeping_init get_message_method throwable_plan handing_init error_plan error_plans read_method write_method io_plan first_plans core_plans core items_of class_of superclasses with_superinterfaces supertypes find_field find_method select special primitive_in split_in class_in element_in type_from types_in field_in result_in method_in row_of entry_row decoded starts_of first_bad meaning_of frames_of first_locals table_in methods_by_number method_failure
object_bears_no_name others = refl

behind : (b : Bool) (o later : Option ℕ) → (o ≡ None → later ≡ None) → cond b (Some 0) (onto o (λ k. Some (suc k))) ≡ None → cond b (Some 0) (onto later (λ k. Some (suc k))) ≡ None
behind true o later go f = absurd (let no : Some 0 ≡ None = f in cc)
behind false None later go f = ap (λ (r : Option ℕ). onto r (λ k. Some (suc k))) (go refl)
behind false (Some k) later go f = absurd (let no : Some (suc k) ≡ None = f in cc)

not_found : {X : Type 0} (p : X → Bool) (xs ys : List X) → index_of p xs ≡ None → index_of p ys ≡ None → index_of p (xs ++ ys) ≡ None
not_found p [] ys none nothing = nothing
not_found p (x ∷ xs) ys none nothing = behind (p x) (index_of p xs) (index_of p (xs ++ ys)) (λ at. not_found p xs ys at nothing) none

below_object : (others : List ClassFile) (c : ℕ) → find_class others [] ≡ None → superclass (core ++ others) c ≡ Some 0 → superclasses (core ++ others) c ≡ c ∷ 0 ∷ []
unfolding superclasses
below_object others c none up =
    ap (λ (n : ℕ). reached (λ k. option_to_list (superclass (core ++ others) k)) n c) (fuel others) ∙ two_above (core ++ others) (21 + length others) c (object_is_uppermost others none) up

string_up : (others : List ClassFile) → superclass (core ++ others) 3 ≡ Some 0
unfolding empty_init object_plan interface_plan length_method char_at_method string_plan plain_init keeping_init get_message_method throwable_plan handing_init error_plan error_plans read_method write_method io_plan first_plans core_plans core items_of class_of superclasses with_superinterfaces supertypes find_field find_method select special primitive_in split_in class_in element_in type_from types_in field_in result_in method_in row_of entry_row decoded starts_of first_bad meaning_of frames_of first_locals table_in methods_by_number method_failure
string_up others = refl

throwable_up : (others : List ClassFile) → superclass (core ++ others) 4 ≡ Some 0
unfolding empty_init object_plan interface_plan length_method char_at_method string_plan plain_init keeping_init get_message_method throwable_plan handing_init error_plan error_plans read_method write_method io_plan first_plans core_plans core items_of class_of superclasses with_superinterfaces supertypes find_field find_method select special primitive_in split_in class_in element_in type_from types_in field_in result_in method_in row_of entry_row decoded starts_of first_bad meaning_of frames_of first_locals table_in methods_by_number method_failure
throwable_up others = refl

string_own : (others : List ClassFile) → flat_map (own_instance_fields (core ++ others)) (reverse (3 ∷ 0 ∷ [])) ≡ (3, 0) ∷ []
unfolding empty_init object_plan interface_plan length_method char_at_method string_plan plain_init keeping_init get_message_method throwable_plan handing_init error_plan error_plans read_method write_method io_plan first_plans core_plans core items_of class_of superclasses with_superinterfaces supertypes find_field find_method select special primitive_in split_in class_in element_in type_from types_in field_in result_in method_in row_of entry_row decoded starts_of first_bad meaning_of frames_of first_locals table_in methods_by_number method_failure
string_own others = refl

throwable_own : (others : List ClassFile) → flat_map (own_instance_fields (core ++ others)) (reverse (4 ∷ 0 ∷ [])) ≡ (4, 0) ∷ []
unfolding empty_init object_plan interface_plan length_method char_at_method string_plan plain_init keeping_init get_message_method throwable_plan handing_init error_plan error_plans read_method write_method io_plan first_plans core_plans core items_of class_of superclasses with_superinterfaces supertypes find_field find_method select special primitive_in split_in class_in element_in type_from types_in field_in result_in method_in row_of entry_row decoded starts_of first_bad meaning_of frames_of first_locals table_in methods_by_number method_failure
throwable_own others = refl

string_fields : (others : List ClassFile) → find_class others [] ≡ None → instance_fields (core ++ others) 3 ≡ (3, 0) ∷ []
string_fields others none = ap (λ (xs : List ℕ). flat_map (own_instance_fields (core ++ others)) (reverse xs)) (below_object others 3 none (string_up others)) ∙ string_own others

throwable_fields : (others : List ClassFile) → find_class others [] ≡ None → instance_fields (core ++ others) 4 ≡ (4, 0) ∷ []
throwable_fields others none = ap (λ (xs : List ℕ). flat_map (own_instance_fields (core ++ others)) (reverse xs)) (below_object others 4 none (throwable_up others)) ∙ throwable_own others

string_declared : (others : List ClassFile) → declared_fields (core ++ others) ((3, 0) ∷ []) ≡ Reference (OfNumbers 5) ∷ []
unfolding empty_init object_plan interface_plan length_method char_at_method string_plan plain_init keeping_init get_message_method throwable_plan handing_init error_plan error_plans read_method write_method io_plan first_plans core_plans core items_of class_of superclasses with_superinterfaces supertypes find_field find_method select special primitive_in split_in class_in element_in type_from types_in field_in result_in method_in row_of entry_row decoded starts_of first_bad meaning_of frames_of first_locals table_in methods_by_number method_failure
string_declared others = refl

throwable_declared : (others : List ClassFile) → declared_fields (core ++ others) ((4, 0) ∷ []) ≡ Reference (OfClass 3) ∷ []
unfolding empty_init object_plan interface_plan length_method char_at_method string_plan plain_init keeping_init get_message_method throwable_plan handing_init error_plan error_plans read_method write_method io_plan first_plans core_plans core items_of class_of superclasses with_superinterfaces supertypes find_field find_method select special primitive_in split_in class_in element_in type_from types_in field_in result_in method_in row_of entry_row decoded starts_of first_bad meaning_of frames_of first_locals table_in methods_by_number method_failure
throwable_declared others = refl

length_stands : (others : List ClassFile) → slice_get (resolved (core ++ others)).methods 1 ≡ Some (length_here 0 12)
unfolding empty_init object_plan interface_plan length_method char_at_method string_plan plain_init keeping_init get_message_method throwable_plan handing_init error_plan error_plans read_method write_method io_plan first_plans core_plans core items_of class_of superclasses with_superinterfaces supertypes find_field find_method select special primitive_in split_in class_in element_in type_from types_in field_in result_in method_in row_of entry_row decoded starts_of first_bad meaning_of frames_of first_locals table_in methods_by_number method_failure
length_stands others = refl

char_at_stands : (others : List ClassFile) → slice_get (resolved (core ++ others)).methods 2 ≡ Some (char_at_here 0 12)
unfolding empty_init object_plan interface_plan length_method char_at_method string_plan plain_init keeping_init get_message_method throwable_plan handing_init error_plan error_plans read_method write_method io_plan first_plans core_plans core items_of class_of superclasses with_superinterfaces supertypes find_field find_method select special primitive_in split_in class_in element_in type_from types_in field_in result_in method_in row_of entry_row decoded starts_of first_bad meaning_of frames_of first_locals table_in methods_by_number method_failure
char_at_stands others = refl

keeping_stands : (others : List ClassFile) → slice_get (resolved (core ++ others)).methods 4 ≡ Some (keeping_here 0 12 0 15)
unfolding empty_init object_plan interface_plan length_method char_at_method string_plan plain_init keeping_init get_message_method throwable_plan handing_init error_plan error_plans read_method write_method io_plan first_plans core_plans core items_of class_of superclasses with_superinterfaces supertypes find_field find_method select special primitive_in split_in class_in element_in type_from types_in field_in result_in method_in row_of entry_row decoded starts_of first_bad meaning_of frames_of first_locals table_in methods_by_number method_failure
keeping_stands others = refl

get_message_stands : (others : List ClassFile) → slice_get (resolved (core ++ others)).methods 5 ≡ Some (get_message_here 0 15)
unfolding empty_init object_plan interface_plan length_method char_at_method string_plan plain_init keeping_init get_message_method throwable_plan handing_init error_plan error_plans read_method write_method io_plan first_plans core_plans core items_of class_of superclasses with_superinterfaces supertypes find_field find_method select special primitive_in split_in class_in element_in type_from types_in field_in result_in method_in row_of entry_row decoded starts_of first_bad meaning_of frames_of first_locals table_in methods_by_number method_failure
get_message_stands others = refl

chars_named_1 : (others : List ClassFile) → find_class others [] ≡ None → (resolved (core ++ others)).operand 1 1 ≡ AField 3 3 0
unfolding empty_init object_plan interface_plan length_method char_at_method string_plan plain_init keeping_init get_message_method throwable_plan handing_init error_plan error_plans read_method write_method io_plan first_plans core_plans core items_of class_of with_superinterfaces supertypes find_field find_method select special primitive_in split_in class_in element_in type_from types_in field_in result_in method_in row_of entry_row decoded starts_of first_bad meaning_of frames_of first_locals table_in methods_by_number method_failure
chars_named_1 others none = ap (λ (fs : List Place). option_map_or (AField 3 3) (index_of (same_place (3, 0)) fs) NoOperand) (string_fields others none)

chars_free_1 : (others : List ClassFile) → (resolved (core ++ others)).guarded 1 1 ≡ false
unfolding empty_init object_plan interface_plan length_method char_at_method string_plan plain_init keeping_init get_message_method throwable_plan handing_init error_plan error_plans read_method write_method io_plan first_plans core_plans core items_of class_of superclasses with_superinterfaces supertypes find_field find_method select special primitive_in split_in class_in element_in type_from types_in field_in result_in method_in row_of entry_row decoded starts_of first_bad meaning_of frames_of first_locals table_in methods_by_number method_failure
chars_free_1 others = refl

chars_named_2 : (others : List ClassFile) → find_class others [] ≡ None → (resolved (core ++ others)).operand 2 1 ≡ AField 3 3 0
unfolding empty_init object_plan interface_plan length_method char_at_method string_plan plain_init keeping_init get_message_method throwable_plan handing_init error_plan error_plans read_method write_method io_plan first_plans core_plans core items_of class_of with_superinterfaces supertypes find_field find_method select special primitive_in split_in class_in element_in type_from types_in field_in result_in method_in row_of entry_row decoded starts_of first_bad meaning_of frames_of first_locals table_in methods_by_number method_failure
chars_named_2 others none = ap (λ (fs : List Place). option_map_or (AField 3 3) (index_of (same_place (3, 0)) fs) NoOperand) (string_fields others none)

chars_free_2 : (others : List ClassFile) → (resolved (core ++ others)).guarded 2 1 ≡ false
unfolding empty_init object_plan interface_plan length_method char_at_method string_plan plain_init keeping_init get_message_method throwable_plan handing_init error_plan error_plans read_method write_method io_plan first_plans core_plans core items_of class_of superclasses with_superinterfaces supertypes find_field find_method select special primitive_in split_in class_in element_in type_from types_in field_in result_in method_in row_of entry_row decoded starts_of first_bad meaning_of frames_of first_locals table_in methods_by_number method_failure
chars_free_2 others = refl

message_named_4 : (others : List ClassFile) → find_class others [] ≡ None → (resolved (core ++ others)).operand 4 6 ≡ AField 4 4 0
unfolding empty_init object_plan interface_plan length_method char_at_method string_plan plain_init keeping_init get_message_method throwable_plan handing_init error_plan error_plans read_method write_method io_plan first_plans core_plans core items_of class_of with_superinterfaces supertypes find_field find_method select special primitive_in split_in class_in element_in type_from types_in field_in result_in method_in row_of entry_row decoded starts_of first_bad meaning_of frames_of first_locals table_in methods_by_number method_failure
message_named_4 others none = ap (λ (fs : List Place). option_map_or (AField 4 4) (index_of (same_place (4, 0)) fs) NoOperand) (throwable_fields others none)

message_free_4 : (others : List ClassFile) → (resolved (core ++ others)).guarded 4 6 ≡ false
unfolding empty_init object_plan interface_plan length_method char_at_method string_plan plain_init keeping_init get_message_method throwable_plan handing_init error_plan error_plans read_method write_method io_plan first_plans core_plans core items_of class_of superclasses with_superinterfaces supertypes find_field find_method select special primitive_in split_in class_in element_in type_from types_in field_in result_in method_in row_of entry_row decoded starts_of first_bad meaning_of frames_of first_locals table_in methods_by_number method_failure
message_free_4 others = refl

message_named_5 : (others : List ClassFile) → find_class others [] ≡ None → (resolved (core ++ others)).operand 5 1 ≡ AField 4 4 0
unfolding empty_init object_plan interface_plan length_method char_at_method string_plan plain_init keeping_init get_message_method throwable_plan handing_init error_plan error_plans read_method write_method io_plan first_plans core_plans core items_of class_of with_superinterfaces supertypes find_field find_method select special primitive_in split_in class_in element_in type_from types_in field_in result_in method_in row_of entry_row decoded starts_of first_bad meaning_of frames_of first_locals table_in methods_by_number method_failure
message_named_5 others none = ap (λ (fs : List Place). option_map_or (AField 4 4) (index_of (same_place (4, 0)) fs) NoOperand) (throwable_fields others none)

message_free_5 : (others : List ClassFile) → (resolved (core ++ others)).guarded 5 1 ≡ false
unfolding empty_init object_plan interface_plan length_method char_at_method string_plan plain_init keeping_init get_message_method throwable_plan handing_init error_plan error_plans read_method write_method io_plan first_plans core_plans core items_of class_of superclasses with_superinterfaces supertypes find_field find_method select special primitive_in split_in class_in element_in type_from types_in field_in result_in method_in row_of entry_row decoded starts_of first_bad meaning_of frames_of first_locals table_in methods_by_number method_failure
message_free_5 others = refl

chars_there : (others : List ClassFile) → find_class others [] ≡ None → slice_get ((resolved (core ++ others)).fields 3) 0 ≡ Some (Reference (OfNumbers 5))
unfolding empty_init object_plan interface_plan length_method char_at_method string_plan plain_init keeping_init get_message_method throwable_plan handing_init error_plan error_plans read_method write_method io_plan first_plans core_plans core items_of class_of superclasses with_superinterfaces supertypes find_field find_method select special primitive_in split_in class_in element_in type_from types_in field_in result_in method_in row_of entry_row decoded starts_of first_bad meaning_of frames_of first_locals table_in methods_by_number method_failure
chars_there others none = ap (λ (fs : List Place). slice_get (declared_fields (core ++ others) fs) 0) (string_fields others none) ∙ ap (λ (ds : List Declared). slice_get ds 0) (string_declared others)

message_there : (others : List ClassFile) → find_class others [] ≡ None → slice_get ((resolved (core ++ others)).fields 4) 0 ≡ Some (Reference (OfClass 3))
unfolding empty_init object_plan interface_plan length_method char_at_method string_plan plain_init keeping_init get_message_method throwable_plan handing_init error_plan error_plans read_method write_method io_plan first_plans core_plans core items_of class_of superclasses with_superinterfaces supertypes find_field find_method select special primitive_in split_in class_in element_in type_from types_in field_in result_in method_in row_of entry_row decoded starts_of first_bad meaning_of frames_of first_locals table_in methods_by_number method_failure
message_there others none = ap (λ (fs : List Place). slice_get (declared_fields (core ++ others) fs) 0) (throwable_fields others none) ∙ ap (λ (ds : List Declared). slice_get ds 0) (throwable_declared others)

string_same : (others : List ClassFile) → (resolved (core ++ others)).extends 3 3 ≡ true
unfolding empty_init object_plan interface_plan length_method char_at_method string_plan plain_init keeping_init get_message_method throwable_plan handing_init error_plan error_plans read_method write_method io_plan first_plans core_plans core items_of class_of superclasses with_superinterfaces supertypes find_field find_method select special primitive_in split_in class_in element_in type_from types_in field_in result_in method_in row_of entry_row decoded starts_of first_bad meaning_of frames_of first_locals table_in methods_by_number method_failure
string_same others = refl

string_is_class : (others : List ClassFile) → (resolved (core ++ others)).is_interface 3 ≡ false
unfolding empty_init object_plan interface_plan length_method char_at_method string_plan plain_init keeping_init get_message_method throwable_plan handing_init error_plan error_plans read_method write_method io_plan first_plans core_plans core items_of class_of superclasses with_superinterfaces supertypes find_field find_method select special primitive_in split_in class_in element_in type_from types_in field_in result_in method_in row_of entry_row decoded starts_of first_bad meaning_of frames_of first_locals table_in methods_by_number method_failure
string_is_class others = refl

throwable_same : (others : List ClassFile) → (resolved (core ++ others)).extends 4 4 ≡ true
unfolding empty_init object_plan interface_plan length_method char_at_method string_plan plain_init keeping_init get_message_method throwable_plan handing_init error_plan error_plans read_method write_method io_plan first_plans core_plans core items_of class_of superclasses with_superinterfaces supertypes find_field find_method select special primitive_in split_in class_in element_in type_from types_in field_in result_in method_in row_of entry_row decoded starts_of first_bad meaning_of frames_of first_locals table_in methods_by_number method_failure
throwable_same others = refl

throwable_is_class : (others : List ClassFile) → (resolved (core ++ others)).is_interface 4 ≡ false
unfolding empty_init object_plan interface_plan length_method char_at_method string_plan plain_init keeping_init get_message_method throwable_plan handing_init error_plan error_plans read_method write_method io_plan first_plans core_plans core items_of class_of superclasses with_superinterfaces supertypes find_field find_method select special primitive_in split_in class_in element_in type_from types_in field_in result_in method_in row_of entry_row decoded starts_of first_bad meaning_of frames_of first_locals table_in methods_by_number method_failure
throwable_is_class others = refl

keeping_begins : (others : List ClassFile) → (resolved (core ++ others)).operand 4 1 ≡ AMethod 0 0
unfolding empty_init object_plan interface_plan length_method char_at_method string_plan plain_init keeping_init get_message_method throwable_plan handing_init error_plan error_plans read_method write_method io_plan first_plans core_plans core items_of class_of superclasses with_superinterfaces supertypes find_field find_method select special primitive_in split_in class_in element_in type_from types_in field_in result_in method_in row_of entry_row decoded starts_of first_bad meaning_of frames_of first_locals table_in methods_by_number method_failure
keeping_begins others = refl

string_length : (others : List ClassFile) → find_class others [] ≡ None → method_failure (core ++ others) 1 ≡ None
unfolding empty_init object_plan interface_plan length_method char_at_method string_plan plain_init keeping_init get_message_method throwable_plan handing_init error_plan error_plans read_method write_method io_plan first_plans core_plans core items_of class_of with_superinterfaces supertypes find_field find_method select special primitive_in split_in class_in element_in type_from types_in field_in result_in method_in row_of entry_row decoded starts_of first_bad meaning_of frames_of first_locals table_in methods_by_number method_failure
string_length others none =
    passes (core ++ others) 1 (3, 0) _ _ _ (length_here 0 12) (length_body 0 12) _ _ refl refl refl refl refl refl refl refl refl refl
    (length_walks (resolved (core ++ others)) 1 0 12 (length_stands others) (chars_named_1 others none) (chars_there others none) (chars_free_1 others) (string_same others) (string_is_class others))

string_char_at : (others : List ClassFile) → find_class others [] ≡ None → method_failure (core ++ others) 2 ≡ None
unfolding empty_init object_plan interface_plan length_method char_at_method string_plan plain_init keeping_init get_message_method throwable_plan handing_init error_plan error_plans read_method write_method io_plan first_plans core_plans core items_of class_of with_superinterfaces supertypes find_field find_method select special primitive_in split_in class_in element_in type_from types_in field_in result_in method_in row_of entry_row decoded starts_of first_bad meaning_of frames_of first_locals table_in methods_by_number method_failure
string_char_at others none =
    passes (core ++ others) 2 (3, 1) _ _ _ (char_at_here 0 12) (char_at_body 0 12) _ _ refl refl refl refl refl refl refl refl refl refl
    (char_at_walks (resolved (core ++ others)) 2 0 12 (char_at_stands others) (chars_named_2 others none) (chars_there others none) (chars_free_2 others) (string_same others) (string_is_class others))

throwable_keeping : (others : List ClassFile) → find_class others [] ≡ None → method_failure (core ++ others) 4 ≡ None
unfolding empty_init object_plan interface_plan length_method char_at_method string_plan plain_init keeping_init get_message_method throwable_plan handing_init error_plan error_plans read_method write_method io_plan first_plans core_plans core items_of class_of with_superinterfaces supertypes find_field find_method select special primitive_in split_in class_in element_in type_from types_in field_in result_in method_in row_of entry_row decoded starts_of first_bad meaning_of frames_of first_locals table_in methods_by_number method_failure
throwable_keeping others none =
    passes (core ++ others) 4 (4, 1) _ _ _ (keeping_here 0 12 0 15) (keeping_body 0 12 0 15) _ _ refl refl refl refl refl refl refl refl refl refl
    (keeping_walks (resolved (core ++ others)) 4 0 12 0 15 _ (keeping_stands others) (keeping_begins others) refl refl refl (throwable_up others) (message_named_4 others none) (message_there others none) (message_free_4 others)
    (string_same others) (string_is_class others) (throwable_same others) (throwable_is_class others))

throwable_message : (others : List ClassFile) → find_class others [] ≡ None → method_failure (core ++ others) 5 ≡ None
unfolding empty_init object_plan interface_plan length_method char_at_method string_plan plain_init keeping_init get_message_method throwable_plan handing_init error_plan error_plans read_method write_method io_plan first_plans core_plans core items_of class_of with_superinterfaces supertypes find_field find_method select special primitive_in split_in class_in element_in type_from types_in field_in result_in method_in row_of entry_row decoded starts_of first_bad meaning_of frames_of first_locals table_in methods_by_number method_failure
throwable_message others none =
    passes (core ++ others) 5 (4, 2) _ _ _ (get_message_here 0 15) (get_message_body 0 15) _ _ refl refl refl refl refl refl refl refl refl refl
    (get_message_walks (resolved (core ++ others)) 5 0 15 (get_message_stands others) (message_named_5 others none) (message_there others none) (message_free_5 others) (string_same others) (string_is_class others) (throwable_same others) (throwable_is_class others))

-- ---- by their numbers

plain_ones : (others : List ClassFile) → list_all (λ n. is_none (method_failure (core ++ others) n)) (range_with_len 6 36) ≡ true
unfolding empty_init object_plan interface_plan length_method char_at_method string_plan plain_init keeping_init get_message_method throwable_plan handing_init error_plan error_plans read_method write_method io_plan first_plans core_plans core items_of class_of superclasses with_superinterfaces supertypes find_field find_method select special primitive_in split_in class_in element_in type_from types_in field_in result_in method_in row_of entry_row decoded starts_of first_bad meaning_of frames_of first_locals table_in methods_by_number method_failure
plain_ones others = refl

throwable_init : (others : List ClassFile) → method_failure (core ++ others) 3 ≡ None
unfolding empty_init object_plan interface_plan length_method char_at_method string_plan plain_init keeping_init get_message_method throwable_plan handing_init error_plan error_plans read_method write_method io_plan first_plans core_plans core items_of class_of superclasses with_superinterfaces supertypes find_field find_method select special primitive_in split_in class_in element_in type_from types_in field_in result_in method_in row_of entry_row decoded starts_of first_bad meaning_of frames_of first_locals table_in methods_by_number method_failure
throwable_init others = refl

core_passes : (others : List ClassFile) → find_class others [] ≡ None → (n : ℕ) → n < 42 → method_failure (core ++ others) n ≡ None
core_passes others none zero lt = object_init others
core_passes others none (suc zero) lt = string_length others none
core_passes others none (suc (suc zero)) lt = string_char_at others none
core_passes others none (suc (suc (suc zero))) lt = throwable_init others
core_passes others none (suc (suc (suc (suc zero)))) lt = throwable_keeping others none
core_passes others none (suc (suc (suc (suc (suc zero))))) lt = throwable_message others none
core_passes others none (suc (suc (suc (suc (suc (suc k)))))) lt = none_of _ (all_in_range (λ n. is_none (method_failure (core ++ others) n)) 6 36 (suc (suc (suc (suc (suc (suc k)))))) (plain_ones others) (omega arith) (omega arith))

-- the numbers of the core classes' methods come first
abbrev numbered_behind : List ClassFile → List Place
numbered_behind others =
    filter (is_coded (core ++ others)) (places_in (enumerate_from 23 others)) ++ filter (λ p. not (is_coded (core ++ others) p)) (places_in (enumerate_from 23 others))

core_numbered : (others : List ClassFile) → methods_by_number (core ++ others) ≡ methods_by_number core ++ numbered_behind others
unfolding empty_init object_plan interface_plan length_method char_at_method string_plan plain_init keeping_init get_message_method throwable_plan handing_init error_plan error_plans read_method write_method io_plan first_plans core_plans core items_of class_of superclasses with_superinterfaces supertypes find_field find_method select special primitive_in split_in class_in element_in type_from types_in field_in result_in method_in row_of entry_row decoded starts_of first_bad meaning_of frames_of first_locals table_in methods_by_number method_failure
core_numbered others = refl

core_methods : length (methods_by_number core) ≡ 42
unfolding empty_init object_plan interface_plan length_method char_at_method string_plan plain_init keeping_init get_message_method throwable_plan handing_init error_plan error_plans read_method write_method io_plan first_plans core_plans core items_of class_of superclasses with_superinterfaces supertypes find_field find_method select special primitive_in split_in class_in element_in type_from types_in field_in result_in method_in row_of entry_row decoded starts_of first_bad meaning_of frames_of first_locals table_in methods_by_number method_failure
core_methods = refl

pub core_verified : CoreIsVerified
core_verified others none n p at lt =
    elim (cases_lt n 42) [
      | inl below ↦ core_passes others none n below
      | inr past ↦
          (let long = core_methods in
          let behind : 23 ≤ p.0 = past_front (λ (q : Place). 23 ≤ q.0) (methods_by_number core) (numbered_behind others) n p (omega arith) (all_numbered_behind (is_coded (core ++ others)) 23 others)
          (ap (λ (ps : List Place). slice_get ps n) (sym (core_numbered others)) ∙ at) in
          absurd (omega arith))
    ]

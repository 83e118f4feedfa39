-- No entry means a string but one of a string.
use Rattle.std.proofs.Common.{◌≡◌, ℕ, Bool, true, false, List, Option, Some, None, refl}
use Rattle.std.specs.Prelude.{if◌then◌else◌}
use Rattle.std.specs.Option.{option_map, option_map_or}
use Rattle.class_pool.specs.declared.entry.Entry.{Entry}
use Rattle.class_pool.specs.declared.entry.Entry.TheVariants as entries
use Rattle.class_pool.specs.declared.class.ClassFile.{ClassFile}
use Rattle.bytecode_model.specs.Lists.{onto, index_of}
use Rattle.bytecode_model.specs.Program.{Operand, NoOperand, AString, AStatic, AField, AMethod, AType}
use Rattle.class_lookup.specs.Lookup.{Place, same_place, find_field, find_method}
use Rattle.class_lookup.specs.Parts.{Signature}
use Rattle.class_pool.specs.Grammar.{text_at}
use Rattle.program_tables.specs.Entries.{meaning_of}
use Rattle.program_tables.specs.Instructions.{Field, Method, signature_in}
use Rattle.program_tables.specs.Kinds.{kind_of_entry}
use Rattle.program_tables.specs.Numbers.{is_static_field, static_fields, instance_fields, method_number, string_number}
use Rattle.program_tables.specs.Operands.{class_named, method_taken, string_object, static_operand, instance_operand, field_operand, method_operand, operand_by}
use Rattle.resolved_program.specs.Strings.{object_in, object_of_entry}

none_from : {A : Type 0} (f : A → Operand) (o : Option A) → ((x : A) → object_in (f x) ≡ None) → object_in (option_map_or f o NoOperand) ≡ None
none_from f None h = refl
none_from f (Some x) h = h x

none_of_both : (b : Bool) (x y : Operand) → object_in x ≡ None → object_in y ≡ None → object_in (if b then x else y) ≡ None
none_of_both true x y h g = h
none_of_both false x y h g = g

field_none : (cs : List ClassFile) (named : ℕ) (f : Place) → object_in (field_operand cs named f) ≡ None
field_none cs named f =
    none_of_both (is_static_field cs f) (static_operand cs f) (instance_operand cs named f) (none_from AStatic (index_of (same_place f) (static_fields cs)) (λ n. refl))
    (none_from (AField named f.0) (index_of (same_place f) (instance_fields cs f.0)) (λ n. refl))

method_none : (cs : List ClassFile) (current : ℕ) (c : ClassFile) (owner : ℕ) (of_interface : Bool) (sig : Option Signature)
    → object_in (option_map_or (λ s. operand_by cs current c 0 (Method of_interface owner s)) sig NoOperand) ≡ None
method_none cs cur c owner of_interface sig =
    none_from (λ s. operand_by cs cur c 0 (Method of_interface owner s)) sig
    (λ s. none_from (λ n. method_operand cs n (onto (find_method cs n s) (method_taken cs 0 cur n))) (class_named cs c owner)
    (λ n. none_from (AMethod n) (onto (onto (find_method cs n s) (method_taken cs 0 cur n)) (method_number cs)) (λ m. refl)))

string_case : (o : Option ℕ) → object_in (option_map_or (λ n. AString (string_object n)) o NoOperand) ≡ option_map string_object o
string_case None = refl
string_case (Some n) = refl

pub object_meant : (cs : List ClassFile) (current : ℕ) (c : ClassFile) (index : ℕ) (o : Option Entry) → object_in (meaning_of cs current c index o).usual ≡ object_of_entry cs c.pool o
object_meant cs cur c index None = refl
object_meant cs cur c index (Some (entries.Text units)) = string_case (string_number cs (text_at c.pool units))
object_meant cs cur c index (Some (entries.Class name)) = none_from AType (kind_of_entry cs c.pool index) (λ k. refl)
object_meant cs cur c index (Some (entries.Field owner member)) =
    none_from (λ s. operand_by cs cur c 0 (Field owner s)) (signature_in c.pool member)
    (λ s. none_from (λ n. option_map_or (field_operand cs n) (find_field cs n s) NoOperand) (class_named cs c owner) (λ n. none_from (field_operand cs n) (find_field cs n s) (field_none cs n)))
object_meant cs cur c index (Some (entries.Method owner member)) = method_none cs cur c owner false (signature_in c.pool member)
object_meant cs cur c index (Some (entries.InterfaceMethod owner member)) = method_none cs cur c owner true (signature_in c.pool member)
object_meant cs cur c index (Some (entries.Integer n)) = refl
object_meant cs cur c index (Some (entries.Float bits)) = refl
object_meant cs cur c index (Some (entries.Long n)) = refl
object_meant cs cur c index (Some (entries.Double bits)) = refl
object_meant cs cur c index (Some (entries.Handle kind reference)) = refl
object_meant cs cur c index (Some (entries.MethodType descriptor)) = refl
object_meant cs cur c index (Some (entries.Utf8 units)) = refl
object_meant cs cur c index (Some (entries.NameAndType name descriptor)) = refl
object_meant cs cur c index (Some (entries.Dynamic bootstrap member)) = refl
object_meant cs cur c index (Some entries.Second) = refl

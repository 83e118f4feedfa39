-- A string that an instruction names is one of the objects that are there at the start, a String.
use Rattle.std.proofs.Common.{◌≡◌, ℕ, zero, suc, Bool, true, false, List, [], ◌∷◌, Option, Some, None, map, refl, sym, ap, ◌∙◌, subst}
use Rattle.std.specs.Prelude.{slice_get, if◌then◌else◌}
use Rattle.std.specs.Option.{option_map_or}
use Rattle.class_pool.specs.declared.entry.Entry.{Entry}
use Rattle.class_pool.specs.declared.entry.Entry.TheVariants as entries
use Rattle.class_pool.specs.declared.class.ClassFile.{ClassFile}
use Rattle.class_pool.specs.Found.{code_of}
use Rattle.class_lookup.specs.Parts.{same_text}
use Rattle.class_pool.specs.Grammar.{text_at}
use Rattle.class_lookup.specs.Lookup.{Place, same_place, find_field, find_method, method_at}
use Rattle.lists.specs.Lists.{onto, index_of}
use Rattle.lists.proofs.Lemmas.{index_found}
use Rattle.bytecode_model.specs.declared.Value.TheVariants.{Ref}
use Rattle.bytecode_model.specs.State.{Object}
use Rattle.bytecode_model.specs.Program.{Operand, NoOperand, AnInt, ALong, AString, AStatic, AField, AMethod, AType, kind_of}
use Rattle.bytecode_typing.specs.Checks.{constant_type, reference_or_top}
use Rattle.program_tables.specs.Instructions.{placed_at, Named, Constant, Class, Field, Method, named_in}
use Rattle.program_tables.specs.Kinds.{kind_of_entry}
use Rattle.program_tables.specs.Numbers.{methods_by_number, method_number, static_fields, instance_fields, is_static_field, strings_of, string_number}
use Rattle.program_tables.specs.Operands.{string_object, class_named, method_taken, constant_operand, static_operand, instance_operand, field_operand, method_operand, operand_by, operand_in, at_instruction}
use Rattle.program_tables.specs.Resolved.{objects_at_start, resolved}
use Rattle.program_tables.specs.Resolving.{IsResolved}
use Rattle.program_laws.proofs.Statics.{string_kind}
use Rattle.bytecode_verifier.specs.Checking.{IsTyped}

-- where it names a string, that is one of the program's
abbrev IsText : List ClassFile → Operand → Type 0
IsText cs (AString p) = (n : ℕ) × (units : List ℕ) × (p ≡ string_object n) × (slice_get (strings_of cs) n ≡ Some units)
IsText cs o = Unit {0}

by_option : {A : Type 0} (cs : List ClassFile) (x : Option A) (f : A → Operand) → ((a : A) → IsText cs (f a)) → IsText cs (option_map_or f x NoOperand)
by_option cs None f h = tt
by_option cs (Some a) f h = h a

by_test : (cs : List ClassFile) (b : Bool) (x y : Operand) → IsText cs x → IsText cs y → IsText cs (if b then x else y)
by_test cs true x y h k = h
by_test cs false x y h k = k

of_string : (cs : List ClassFile) (units : List ℕ) (o : Option ℕ) → string_number cs units ≡ o → IsText cs (option_map_or (λ n. AString (string_object n)) o NoOperand)
of_string cs units None e = tt
of_string cs units (Some n) e = let f = index_found (same_text units) (strings_of cs) n e in (n, f.0, refl, f.1)

of_constant : (cs : List ClassFile) (pool : List Entry) (e : Entry) → IsText cs (constant_operand cs pool e)
of_constant cs pool (entries.Text units) = of_string cs (text_at pool units) (string_number cs (text_at pool units)) refl
of_constant cs pool (entries.Integer n) = tt
of_constant cs pool (entries.Long n) = tt
of_constant cs pool e = tt

of_field : (cs : List ClassFile) (named : ℕ) (f : Place) → IsText cs (field_operand cs named f)
of_field cs named f =
    by_test cs (is_static_field cs f) (static_operand cs f) (instance_operand cs named f)
    (by_option cs (index_of (same_place f) (static_fields cs)) AStatic (λ n. tt))
    (by_option cs (index_of (same_place f) (instance_fields cs f.0)) (AField named f.0) (λ n. tt))

of_named : (cs : List ClassFile) (current : ℕ) (c : ClassFile) (op : ℕ) (n : Named) → IsText cs (operand_by cs current c op n)
of_named cs current c op (Constant e) = of_constant cs c.pool e
of_named cs current c op (Class index) = by_option cs (kind_of_entry cs c.pool index) AType (λ k. tt)
of_named cs current c op (Field index s) =
    by_option cs (class_named cs c index) (λ n. option_map_or (field_operand cs n) (find_field cs n s) NoOperand) (λ n. by_option cs (find_field cs n s) (field_operand cs n) (of_field cs n))
of_named cs current c op (Method of_interface index s) =
    by_option cs (class_named cs c index) (λ n. method_operand cs n (onto (find_method cs n s) (method_taken cs op current n)))
    (λ n. by_option cs (onto (onto (find_method cs n s) (method_taken cs op current n)) (method_number cs)) (AMethod n) (λ k. tt))

of_place : (cs : List ClassFile) (p : Place) (pc : ℕ) → IsText cs (at_instruction cs p pc NoOperand (operand_in cs))
of_place cs p pc =
    by_option cs (slice_get cs p.0) (λ c. option_map_or (λ x. operand_in cs p.0 c x.instr) (onto (onto (method_at cs p) code_of) (λ k. placed_at k.code pc)) NoOperand)
    (λ c. by_option cs (onto (onto (method_at cs p) code_of) (λ k. placed_at k.code pc)) (λ x. operand_in cs p.0 c x.instr)
    (λ x. by_option cs (named_in c x.instr) (operand_by cs p.0 c x.instr.op) (of_named cs p.0 c x.instr.op)))

of_method : (cs : List ClassFile) (n pc : ℕ) → IsText cs ((resolved cs).operand n pc)
of_method cs n pc = by_option cs (slice_get (methods_by_number cs) n) (λ p. at_instruction cs p pc NoOperand (operand_in cs)) (λ p. of_place cs p pc)

kind_at : (cs : List ClassFile) (os : List Object) (p : ℕ) → onto (slice_get (map (λ (o : Object). o.kind) os) p) (λ t. slice_get (resolved cs).types t) ≡ onto (slice_get os p) (λ o. kind_of (resolved cs) o)
kind_at cs [] p = refl
kind_at cs (o ∷ os) zero = refl
kind_at cs (o ∷ os) (suc p) = kind_at cs os p

typed_case : (cs : List ClassFile) → IsResolved cs → (o : Operand) → IsText cs o → IsTyped (resolved cs) o
typed_case cs r (AString p) h =
    ap (λ q. constant_type (resolved cs) (Ref q)) h.2
    ∙ ap reference_or_top (sym (kind_at cs (objects_at_start cs) (string_object h.0)) ∙ string_kind cs r h.0 h.1 h.3)
typed_case cs r NoOperand h = tt
typed_case cs r (AnInt n) h = tt
typed_case cs r (ALong n) h = tt
typed_case cs r (AStatic n) h = tt
typed_case cs r (AField a b c) h = tt
typed_case cs r (AMethod a b) h = tt
typed_case cs r (AType k) h = tt

pub operands_typed : (cs : List ClassFile) → IsResolved cs → (n pc : ℕ) (o : Operand) → (resolved cs).operand n pc ≡ o → IsTyped (resolved cs) o
operands_typed cs r n pc o e = subst (IsTyped (resolved cs)) e (typed_case cs r ((resolved cs).operand n pc) (of_method cs n pc))

-- What the pool entries of each class mean, by their indexes.
use Rattle.std.specs.Prelude.{ℕ, ◌+◌, Bool, true, false, List, [], length, map, Option, Some, None, slice_get}
use Rattle.std.specs.Option.{option_map_or}
use Rattle.std.specs.List.{range_with_len}
use Rattle.class_pool.specs.declared.entry.Entry.{Entry}
use Rattle.class_pool.specs.declared.entry.Entry.TheVariants as entries
use Rattle.class_pool.specs.declared.class.ClassFile.{ClassFile}
use Rattle.class_pool.specs.Grammar.{entry_at}
use Rattle.bytecode_model.specs.Lists.{onto}
use Rattle.bytecode_model.specs.Program.{Operand, NoOperand, AType}
use Rattle.class_lookup.specs.Lookup.{Place, find_field, find_method}
use Rattle.class_lookup.specs.Parts.{class_text}
use Rattle.class_lookup.specs.Hierarchy.{find_class}
use Rattle.program_tables.specs.Instructions.{Class, Field, Method, signature_in}
use Rattle.program_tables.specs.Kinds.{kind_of_entry}
use Rattle.program_tables.specs.Operands.{constant_operand, operand_by, guarded_by}
use Rattle.program_tables.specs.Meanings.{operand_seen}
use Rattle.program_tables.specs.declared.operand.Operand.{Operand as SeenOperand}
use Rattle.program_tables.specs.declared.operand.Operand.TheVariants as operands
use Rattle.program_tables.specs.declared.kinds.ObjectKind.{ObjectKind}
use Rattle.program_tables.specs.declared.meanings.Meaning.{Meaning as Made}

-- invokespecial
abbrev pub special_op : ℕ
special_op = 183

-- what an entry means to an instruction with the opcode: a class or an array type, a member, or a constant
abbrev pub entry_operand : List ClassFile → (current : ℕ) → ClassFile → (op index : ℕ) → Entry → Operand
entry_operand cs current c op index (entries.Class name) = operand_by cs current c op (Class index)
entry_operand cs current c op index (entries.Field owner member) = option_map_or (λ s. operand_by cs current c op (Field owner s))
    (signature_in c.pool member) NoOperand
entry_operand cs current c op index (entries.Method owner member) = option_map_or (λ s. operand_by cs current c op (Method false owner s))
    (signature_in c.pool member) NoOperand
entry_operand cs current c op index (entries.InterfaceMethod owner member) = option_map_or (λ s. operand_by cs current c op (Method true owner s))
    (signature_in c.pool member) NoOperand
entry_operand cs current c op index entry = constant_operand cs c.pool entry

-- whether it gives a protected member of a superclass in another package
abbrev pub entry_guarded : List ClassFile → (current : ℕ) → ClassFile → Entry → Bool
entry_guarded cs current c (entries.Field owner member) = option_map_or (λ s. guarded_by cs current c (Field owner s)) (signature_in c.pool member) false
entry_guarded cs current c (entries.Method owner member) = option_map_or (λ s. guarded_by cs current c (Method false owner s))
    (signature_in c.pool member) false
entry_guarded cs current c (entries.InterfaceMethod owner member) = option_map_or (λ s. guarded_by cs current c (Method true owner s))
    (signature_in c.pool member) false
entry_guarded cs current c entry = false

-- what an entry means to invokespecial and to any other instruction
pub record Meaning : Type 0 where
  pub usual : Operand
  pub special : Operand
  pub guarded : Bool

abbrev pub meaning_of : List ClassFile → (current : ℕ) → ClassFile → (index : ℕ) → Option Entry → Meaning
meaning_of cs current c index None = record { usual = NoOperand; special = NoOperand; guarded = false }
meaning_of cs current c index (Some entry) = record {
  usual = entry_operand cs current c 0 index entry;
  special = entry_operand cs current c special_op index entry;
  guarded = entry_guarded cs current c entry;
}

abbrev pub meaning_at : List ClassFile → (current : ℕ) → ClassFile → (index : ℕ) → Meaning
meaning_at cs current c index = meaning_of cs current c index (entry_at c.pool index)

-- of the entries of a class in their order, and of those of all classes
abbrev pub meanings_in : List ClassFile → (current : ℕ) → ClassFile → List Meaning
meanings_in cs current c = map (λ place. meaning_at cs current c (place + 1)) (range_with_len 0 (length c.pool))

unfoldable pub meanings_by : List ClassFile → (current : ℕ) → List Meaning
meanings_by cs current = option_map_or (meanings_in cs current) (slice_get cs current) []

abbrev pub all_meanings : List ClassFile → List (List Meaning)
all_meanings cs = map (meanings_by cs) (range_with_len 0 (length cs))

-- what the tables have in place of it
abbrev pub meaning_seen : Made → Meaning
meaning_seen m = record { usual = operand_seen m.usual; special = operand_seen m.special; guarded = m.guarded }

abbrev pub meanings_seen : List Made → List Meaning
meanings_seen ms = map meaning_seen ms

-- what a class or an array type means that an entry names
abbrev pub type_meaning : List ClassFile → List Entry → (index : ℕ) → Meaning
type_meaning cs pool index =
    let operand = option_map_or AType (kind_of_entry cs pool index) NoOperand in
    record { usual = operand; special = operand; guarded = false }

-- the type that an operand is, if it is one
abbrev pub kind_in : SeenOperand → Option ObjectKind
kind_in (operands.Type kind) = Some kind
kind_in operand = None

-- ---- members that entries name

-- the class through which a field or a method is named, and the one that is found
abbrev pub found_from : (find : ℕ → Option Place) → List ClassFile → ClassFile → (owner : ℕ) → Option (ℕ × Place)
found_from find cs c owner = onto (find_class cs (class_text c.pool owner)) (λ n. onto (find n) (λ p. Some (n, p)))

abbrev pub field_found : List ClassFile → ClassFile → (owner member : ℕ) → Option (ℕ × Place)
field_found cs c owner member = onto (signature_in c.pool member) (λ s. found_from (λ n. find_field cs n s) cs c owner)

abbrev pub method_found : List ClassFile → ClassFile → (owner member : ℕ) → Option (ℕ × Place)
method_found cs c owner member = onto (signature_in c.pool member) (λ s. found_from (λ n. find_method cs n s) cs c owner)

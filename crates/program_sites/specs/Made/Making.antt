-- What an instruction makes, the length of an array apart, and the ints that instructions push.
use Rattle.std.specs.Prelude.{◌≡◌, ◌≢◌, ℕ, ℤ, ◌+◌, List, sum_by, Option, Some, None, MatchOption}
use Rattle.class_pool.specs.declared.class.ClassFile.{ClassFile}
use Rattle.class_lookup.specs.Lookup.{Place}
use Rattle.program_tables.specs.declared.operand.Operand.{Operand}
use Rattle.program_tables.specs.declared.operand.Operand.TheVariants as operands
use Rattle.program_tables.specs.Meanings.{operand_seen}
use Rattle.program_tables.specs.Numbers.{instance_fields}
use Rattle.program_tables.specs.Resolved.{declared_at}
use Rattle.bytecode_model.specs.declared.Value.TheVariants.{Int}
use Rattle.bytecode_model.specs.Types.{OfClass, default}
use Rattle.bytecode_model.specs.Program.{AType}
use Rattle.bytecode_model.specs.Sizes.{value_words}
use Rattle.bytecode_model.specs.Rows as rows
use Rattle.bytecode_model.specs.Rows.{Row}
use Rattle.code_scan.specs.declared.rows.IntRow.{IntRow}
use Rattle.code_scan.specs.declared.rows.IntRow.TheVariants.{Push, PushEntry}
use Rattle.memory_rules.specs.Heap.{Made, AnObject, AnArray}
use Rattle.program_sites.specs.declared.made.making.MadeWords.{MadeWords}
use Rattle.program_sites.specs.declared.made.making.MadeWords.TheVariants.{Object, Array}

-- the words of a field
abbrev pub words_at : List ClassFile → Place → ℕ
words_at cs f = elim (declared_at cs f) [ None ↦ 0 | Some d ↦ value_words (default d) ]

-- an object's word for its class, and its fields
abbrev pub words_of : List ClassFile → (class : ℕ) → ℕ
words_of cs c = 1 + sum_by (words_at cs) (instance_fields cs c)

-- the class that the operand is, or none where it is no class
abbrev pub IsClassOf : Operand → Option ℕ → Type 0
IsClassOf o found = MatchOption found ((c : ℕ) → operand_seen o ≢ AType (OfClass c)) (λ c. operand_seen o ≡ AType (OfClass c))

-- what is told of an instruction that makes objects
abbrev pub made_seen : Option MadeWords → Option Made
made_seen None = None
made_seen (Some (Object words)) = Some (AnObject words)
made_seen (Some (Array element)) = Some (AnArray element)

-- the int that the row pushes, or none where it pushes none
abbrev pub IsPushBy : Row → Option ℤ → Type 0
IsPushBy r o = MatchOption o ((c : ℤ) → r ≢ rows.Push (Int c)) (λ c. r ≡ rows.Push (Int c))

-- an object of the class that the operand is
abbrev pub IsNewBy : List ClassFile → Operand → Option MadeWords → Type 0
IsNewBy cs o made = (c : ℕ) → operand_seen o ≡ AType (OfClass c) → made ≡ Some (Object (words_of cs c))

-- the int that an operand is
abbrev pub int_of : Operand → Option ℤ
int_of (operands.Int n) = Some n
int_of o = None

-- the int that an instruction pushes of which this is told, where its pool entry is this
abbrev pub pushed_or : IntRow → (entry : Option ℤ) → Option ℤ
pushed_or (Push n) entry = Some n
pushed_or PushEntry entry = entry
pushed_or t entry = None

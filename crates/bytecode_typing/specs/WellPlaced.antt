-- Well placed programs: JVM Specification SE 8, 4.7.3 (the exception table) and 4.9.1 (static constraints on instructions and on operands).
use Rattle.std.specs.Prelude.{◌≡◌, ◌⊎◌, ℕ, ◌+◌, ◌<◌, ◌≤◌, Bool, true, false, List, [], ◌∷◌, length, map, sum_by, Some, IfSome, ℤ, pos, ◌+ℤ◌, ◌<ℤ◌, IsTrue}
use Rattle.std.specs.Prelude.{slice_get, slice_index}
use Rattle.std.specs.List.{AllByRecursion}
use Rattle.opcodes.specs.declared.instruction.Instr.{Instr}
use Rattle.opcodes.specs.declared.instruction.Case.{Case}
use Rattle.opcodes.specs.Start.{IsStart}
use Rattle.bytecode_model.specs.Types.{LongType, Declared, Numeric, Moved, Numbers}
use Rattle.bytecode_model.specs.Program.{Program, Method, Body, Handler, body_of, instr_at}
use Rattle.bytecode_model.specs.Rows as rows
use Rattle.bytecode_model.specs.Rows.{Row}
use Rattle.bytecode_model.specs.Steps.{taken_types, row_in}

-- ---- where control goes

-- whether control may go on behind the instruction
abbrev pub goes_on : Row → Bool
goes_on (rows.Jump offset) = false
goes_on (rows.Switch default cases) = false
goes_on rows.Throw = false
goes_on (rows.Return given) = false
goes_on r = true

-- the offsets to which it branches
abbrev pub offsets_of : Row → List ℤ
offsets_of (rows.Branch taken test offset) = offset ∷ []
offsets_of (rows.BranchSame wanted offset) = offset ∷ []
offsets_of (rows.BranchNull wanted offset) = offset ∷ []
offsets_of (rows.Jump offset) = offset ∷ []
offsets_of (rows.Switch default cases) = default ∷ map (λ c. c.offset) cases
offsets_of r = []

-- an instruction begins where a branch from pc by the offset leads
abbrev pub LeadsToInstruction : (code : List ℕ) → (pc : ℕ) → (offset : ℤ) → Type 0
LeadsToInstruction code pc offset = (place : ℕ) × (pos pc +ℤ offset ≡ pos place) × IsStart code place

-- ---- what operands name

-- the local variables that a load or a store moves
abbrev pub local_words : Moved → ℕ
local_words (Numbers LongType) = 2
local_words sort = 1

-- the local variables, the field or the method of an instruction are there
abbrev pub HasItsOperand : Program → Body → Row → Type 0
HasItsOperand P b (rows.Load sort k) = k + local_words sort ≤ b.max_locals
HasItsOperand P b (rows.Store sort k) = k + local_words sort ≤ b.max_locals
HasItsOperand P b (rows.Increment k n) = k < b.max_locals
HasItsOperand P b (rows.GetStatic f) = f < length P.statics
HasItsOperand P b (rows.PutStatic f) = f < length P.statics
HasItsOperand P b (rows.GetField named owner k) = k < length (P.fields owner)
HasItsOperand P b (rows.PutField named owner k) = k < length (P.fields owner)
HasItsOperand P b (rows.CallStatic m) = m < length P.methods
HasItsOperand P b (rows.CallSpecial named m) = m < length P.methods
HasItsOperand P b (rows.CallVirtual named m) = m < length P.methods
HasItsOperand P b (rows.CallInterface named m) = m < length P.methods
HasItsOperand P b r = Unit {0}

abbrev pub RiseFrom : (key : ℤ) → List Case → Type 0
RiseFrom key [] = Unit {0}
RiseFrom key (c ∷ cs) = (key <ℤ c.key) × RiseFrom c.key cs

abbrev pub KeysRise : List Case → Type 0
KeysRise [] = Unit {0}
KeysRise (c ∷ cs) = RiseFrom c.key cs

abbrev pub declared_words : Declared → ℕ
declared_words (Numeric LongType) = 2
declared_words d = 1

-- the words of a method's arguments, `this` counted
abbrev pub argument_words : Method → ℕ
argument_words m = sum_by declared_words (taken_types m)

-- a `tableswitch` (170) has a range, and the keys of a switch rise; `invokeinterface` has the number of argument words and then a zero
abbrev pub HasItsForm : Program → Body → (pc : ℕ) → Instr → Row → Type 0
HasItsForm P b pc i (rows.Switch default cases) = (i.op ≡ 170 → 0 < i.count) × KeysRise cases
HasItsForm P b pc i (rows.CallInterface named m) = IfSome (slice_get P.methods m) (λ k. i.second ≡ pos (argument_words k)) × (slice_index b.code (pc + 4) ≡ 0)
HasItsForm P b pc i r = Unit {0}

-- ---- programs

-- the instruction at pc of the method n, whose body is b: it is whole, its operand means something that it can take, and control goes from it to instructions
pub record IsWellPlacedAt (P : Program) (n : ℕ) (b : Body) (pc : ℕ) : Type 0 where
  pub instr : Instr
  pub row : Row
  pub has_instr : instr_at P n pc ≡ Some instr
  pub has_row : row_in P n pc ≡ Some (pc + instr.length, row)
  pub operand : HasItsOperand P b row
  pub form : HasItsForm P b pc instr row
  pub targets : AllByRecursion (LeadsToInstruction b.code pc) (offsets_of row)
  pub behind : IsTrue (goes_on row) → IsStart b.code (pc + instr.length)

-- an entry of the exception table: its range isn't empty, and begins, ends and leads where instructions begin; it may end with the code
pub record IsWellPlacedHandler (code : List ℕ) (h : Handler) : Type 0 where
  pub range : h.start < h.end
  pub start : IsStart code h.start
  pub end : IsStart code h.end ⊎ (h.end ≡ length code)
  pub target : IsStart code h.target

pub record IsWellPlacedCode (P : Program) (n : ℕ) (b : Body) : Type 0 where
  pub not_empty : 0 < length b.code
  pub instructions : (pc : ℕ) → IsStart b.code pc → IsWellPlacedAt P n b pc
  pub handlers : AllByRecursion (IsWellPlacedHandler b.code) b.handlers

-- the code of each method that has some
abbrev pub WellPlaced : Program → Type 0
WellPlaced P = (n : ℕ) (b : Body) → body_of P n ≡ Some b → IsWellPlacedCode P n b

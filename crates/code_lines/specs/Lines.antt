-- Lines of code: the instructions of a method with their rows, what names a place of the code, and what stands directly before one
-- (JVM Specification SE 8, 4.7.3, 4.9 and 6.5).
use Rattle.std.specs.Prelude.{◌≡◌, ◌⊎◌, ℕ, suc, ℤ, pos, ◌+ℤ◌, List, [], ◌∷◌, Contains, Some}
use Rattle.std.specs.Option.{IsSomeAnd}
use Rattle.opcodes.specs.declared.instruction.Case.{Case}
use Rattle.opcodes.specs.Start.{IsStart}
use Rattle.bytecode_model.specs.declared.Value.TheVariants.{Int}
use Rattle.bytecode_model.specs.Types.{LongType, Numbers}
use Rattle.bytecode_model.specs.Program.{Program, Handler, body_of}
use Rattle.bytecode_model.specs.Rows as rows
use Rattle.bytecode_model.specs.Rows.{Row}
use Rattle.bytecode_model.specs.Steps.{row_in}

-- The instruction at the place p of the method's code: the place behind it, and its row. Bytes within it may look like an instruction; that is no line.
pub record IsLine (P : Program) (m p next : ℕ) (r : Row) : Type 0 where
  pub start : IsSomeAnd (body_of P m) (λ b. IsStart b.code p)
  pub is : row_in P m p ≡ Some (next, r)

-- a branch, a jump or a switch at the place p names the place q: that of its offset, or for a switch that of its default or of a case
abbrev pub Names : (p : ℕ) → Row → (q : ℕ) → Type 0
Names p (rows.Jump offset) q = pos p +ℤ offset ≡ pos q
Names p (rows.Branch taken test offset) q = pos p +ℤ offset ≡ pos q
Names p (rows.BranchSame wanted offset) q = pos p +ℤ offset ≡ pos q
Names p (rows.BranchNull wanted offset) q = pos p +ℤ offset ≡ pos q
Names p (rows.Switch default cases) q = (pos p +ℤ default ≡ pos q) ⊎ ((c : Case) × Contains cases c × (pos p +ℤ c.offset ≡ pos q))
Names p r q = ⊥

-- An instruction of the method names the place, whether control comes to that instruction or not, or an entry of the exception table has its handler there.
abbrev pub IsNamed : Program → (method place : ℕ) → Type 0
IsNamed P m q =
    ((p : ℕ) × (next : ℕ) × (r : Row) × IsLine P m p next r × Names p r q)
    ⊎ IsSomeAnd (body_of P m) (λ b. (h : Handler) × Contains b.handlers h × (h.target ≡ q))

-- The instruction directly before the place pushes this int, and nothing names the place, so that control comes to it from there alone.
pub record IsPushedBefore (P : Program) (m place : ℕ) (c : ℤ) : Type 0 where
  pub before : ℕ
  pub push : IsLine P m before place (rows.Push (Int c))
  pub alone : ¬ IsNamed P m place

-- the local variables that a row writes; a long takes two (2.6.1)
abbrev pub written_by : Row → List ℕ
written_by (rows.Store (Numbers LongType) k) = k ∷ suc k ∷ []
written_by (rows.Store sort k) = k ∷ []
written_by (rows.Increment k n) = k ∷ []
written_by r = []

-- the instruction at the place writes the local variable
abbrev pub Writes : Program → (method place local : ℕ) → Type 0
Writes P m p k = (next : ℕ) × (r : Row) × IsLine P m p next r × Contains (written_by r) k

-- no instruction of the program writes the static field
abbrev pub IsNeverPut : Program → (field : ℕ) → Type 0
IsNeverPut P f = (m p next : ℕ) → ¬ IsLine P m p next (rows.PutStatic f)

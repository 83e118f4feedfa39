-- The places at which the instructions of a code begin: JVM Specification SE 8, 4.7.3 and 4.9.1.
-- The first instruction begins at place 0, and each next one at the place behind the one before it.
use Rattle.std.specs.Prelude.{◌≡◌, ◌↔◌, ℕ, zero, suc, ◌+◌, ◌<◌, ◌≤◌, Bool, not, List, [], ◌∷◌, length, nat_lt, if◌then◌else◌, Option, Some, None, Result, Ok}
use Rattle.std.specs.Prelude.{Err, is_ok, IsTrue, Contains, find}
use Rattle.std.specs.List.Sorted.{IsStrictlyIncreasing}
use Rattle.opcodes.specs.declared.instruction.Instr.{Instr}
use Rattle.opcodes.specs.declared.instruction.DecodeFault.{DecodeFault}
use Rattle.opcodes.specs.Instruction.{decoded}
use Rattle.opcodes.specs.Fault.{IsWholeAt}

-- the place behind an instruction at pc, where the code goes on
abbrev pub place_behind : List ℕ → ℕ → Result Instr DecodeFault → Option ℕ
place_behind code pc (Ok instr) = if nat_lt (pc + instr.length) (length code) then Some (pc + instr.length) else None
place_behind code pc (Err fault) = None

abbrev pub next_start : List ℕ → ℕ → Option ℕ
next_start code pc = place_behind code pc (decoded code pc)

-- the starts from a place on, at most so many
abbrev pub starts_from : ℕ → List ℕ → Option ℕ → List ℕ
starts_from zero code place = []
starts_from (suc most) code None = []
starts_from (suc most) code (Some pc) = pc ∷ starts_from most code (next_start code pc)

abbrev pub first_start : List ℕ → Option ℕ
first_start code = if nat_lt 0 (length code) then Some 0 else None

-- the starts of the instructions, rising; the last may be a place from which the code isn't a whole instruction
unfoldable pub starts_of : List ℕ → List ℕ
starts_of code = starts_from (length code) code (first_start code)

-- an instruction, whole or not, begins at the place
abbrev pub IsStart : List ℕ → ℕ → Type 0
IsStart code pc = Contains (starts_of code) pc

-- the verifier's rule `opcode`: the first place from which the code isn't a whole instruction
unfoldable pub first_bad : List ℕ → Option ℕ
first_bad code = find (λ pc. not (is_ok (decoded code pc))) (starts_of code)

-- ---- laws

-- the starts are the least set of places within the code with 0 in it, and with the place behind each whole instruction that begins in it
pub record AreStarts (code : List ℕ) : Type 0 where
  pub first : 0 < length code → IsStart code 0
  pub next : (pc : ℕ) (instr : Instr) → IsStart code pc → decoded code pc ≡ Ok instr → pc + instr.length < length code → IsStart code (pc + instr.length)
  pub no_other : (test : ℕ → Bool) → IsTrue (test 0)
      → ((pc : ℕ) (instr : Instr) → IsTrue (test pc) → decoded code pc ≡ Ok instr → pc + instr.length < length code → IsTrue (test (pc + instr.length)))
      → (pc : ℕ) → IsStart code pc → IsTrue (test pc)
  pub within_code : (pc : ℕ) → IsStart code pc → pc < length code
  pub rising : IsStrictlyIncreasing (starts_of code)

-- the place of rule `opcode` is the one start from which the code isn't a whole instruction
abbrev pub IsFirstBad : List ℕ → Type 0
IsFirstBad code = (pc : ℕ) → (first_bad code ≡ Some pc) ↔ (IsStart code pc × (IsWholeAt code pc → ⊥))

-- the byte at the place belongs to the instruction at pc, which is whole
pub record IsByteOf (code : List ℕ) (place pc : ℕ) : Type 0 where
  pub instr : Instr
  pub start : IsStart code pc
  pub whole : decoded code pc ≡ Ok instr
  pub from : pc ≤ place
  pub to : place < pc + instr.length

-- where the code is whole instructions, each of its bytes belongs to exactly one
abbrev pub IsPartition : List ℕ → Type 0
IsPartition code = first_bad code ≡ None → (place : ℕ) → place < length code
    → (pc : ℕ) × IsByteOf code place pc × ((other : ℕ) → IsByteOf code place other → other ≡ pc)

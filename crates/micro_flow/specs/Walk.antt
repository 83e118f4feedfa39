-- Walks of the ROM from an address to a boundary, and the cycles that they take.
use Rattle.std.specs.Prelude.{ℕ, suc, pred, ◌≡◌, ◌+◌, ◌-◌, ◌%◌, ◌≤◌, Bool, true, false, ◌==◌, ◌&&◌, ◌||◌, nat_lt, if◌then◌else◌, List, [], ◌∷◌, Option, Some}
use Rattle.std.specs.Prelude.{None, slice_index}
use Rattle.microcode.specs.declared.isa.Body.TheVariants.{Plain, Stm, Ldm, Ldi, Bz, Bnz, Jmp}
use Rattle.microcode.specs.declared.isa.Micro.{Micro}
use Rattle.microcode.specs.declared.isa.Turns.{Turns}
use Rattle.microcode.specs.declared.isa.Turns.TheVariants.{Count, PerPair, PerEntry}
use Rattle.microcode.specs.declared.isa.operation.Operation.{Operation}
use Rattle.microcode.specs.declared.isa.operation.Operation.TheVariants.{Wait, Stmra, Stmwd, Hltb, Hltu}
use Rattle.microcode.specs.Isa.Operations.{operation_of}
use Rattle.microcode.specs.Isa.Words.{micro_of}
use Rattle.microcode.specs.declared.TheConstants.{WORDS, ENTRIES, TURNS, RAISE}
use Rattle.microcode.specs.Tables.{turns_in}
use Rattle.micro_flow.specs.declared.CostParams.{CostParams}

-- how many times turns are
abbrev pub times_of : CostParams → Turns → ℕ
times_of p (Count n) = n
times_of p PerPair = p.pairs
times_of p PerEntry = p.entries

abbrev pub times_if : CostParams → Option Turns → ℕ
times_if p None = 0
times_if p (Some turns) = times_of p turns

-- how often a branch to its own or an earlier address may be taken
abbrev pub turns_at : CostParams → (address : ℕ) → ℕ
turns_at p address = times_if p (turns_in address TURNS)

-- what of an operation matters to time; a look-up takes one cycle, since it is supposed to hit
pub data TimeKind : Type 0 where
  Waits : TimeKind
  Reads : TimeKind
  Writes : TimeKind
  Halts : TimeKind
  Other : TimeKind

abbrev pub kind_of : Operation → TimeKind
kind_of Wait = Waits
kind_of Stmra = Reads
kind_of Stmwd = Writes
kind_of Hltb = Halts
kind_of Hltu = Halts
kind_of _ = Other

-- A walk that has come to an address: the port's count, how often each branch may still go back, the cycles so far,
-- whether a boundary was come to, and whether all of it was allowed.
pub record Walker : Type 0 where
  pub at : ℕ
  pub port : ℕ
  pub left : ℕ → ℕ
  pub clock : ℕ
  pub over : Bool
  pub fine : Bool

-- so many cycles pass
abbrev pub passed : ℕ → Walker → Walker
passed cycles s = record s { clock = s.clock + cycles; port = s.port - cycles }

-- the raise routine's address is a boundary
abbrev pub arrived : (to : ℕ) → Walker → Walker
arrived to s = record s { at = to; over = to == RAISE }

-- to the next address, or over
abbrev pub onward : (stops : Bool) → Walker → Walker
onward true s = record s { over = true }
onward false s = arrived ((s.at + 1) % 2048) s

abbrev pub used : (at : ℕ) → (ℕ → ℕ) → ℕ → ℕ
used at left k = if k == at then left k - 1 else left k

-- a branch ahead takes no turn; any other takes one, which must be left
abbrev pub turned : (ahead : Bool) → Walker → Walker
turned true s = s
turned false s = record s { left = used s.at s.left; fine = nat_lt 0 (s.left s.at) && s.fine }

-- a branch that is taken stalls for two cycles
abbrev pub branched : (taken : Bool) → (to : ℕ) → Walker → Walker
branched true to s = arrived to (passed 3 (turned (nat_lt s.at to) s))
branched false to s = onward false (passed 1 s)

abbrev pub timed : TimeKind → CostParams → Walker → Walker
timed Waits p s = record s { clock = s.clock + suc (pred s.port); port = 0 }
timed Reads p s = record (passed 1 s) { port = p.r + 1 }
timed Writes p s = record (passed 1 s) { port = p.w + 1 }
timed _ p s = passed 1 s

-- whether the walk is over after an operation: a halting one may go on
abbrev pub stops : TimeKind → (choice nxt : Bool) → Bool
stops Halts choice nxt = choice || nxt
stops _ choice nxt = nxt

-- a microinstruction, where a branch and a halting operation do as the choice says
abbrev pub step : Option Micro → (choice : Bool) → CostParams → Walker → Walker
step None choice p s = record s { fine = false }
step (Some m) choice p s =
    elim m.body [
      | Plain code ↦ onward (stops (kind_of (operation_of code)) choice m.nxt) (timed (kind_of (operation_of code)) p s)
      | Stm k ↦ onward m.nxt (passed 1 s)
      | Ldm k ↦ onward m.nxt (passed 1 s)
      | Ldi k ↦ onward m.nxt (passed 1 s)
      | Bz to ↦ branched choice to s
      | Bnz to ↦ branched choice to s
      | Jmp to ↦ branched true to s
    ]

-- nothing comes after a boundary
abbrev pub going : Walker → Walker
going s = record s { fine = (if s.over then false else true) && s.fine }

-- the walk that chooses so at each word
abbrev pub walk : CostParams → (choices : List Bool) → Walker → Walker
walk p [] s = s
walk p (choice ∷ choices) s = walk p choices (step (micro_of (slice_index WORDS s.at)) choice p (going s))

abbrev pub begin : CostParams → (at : ℕ) → Walker
begin p at = record { at = at; port = 0; left = turns_at p; clock = 0; over = false; fine = true }

-- the walk has come to a boundary, and was allowed
pub record Ends (s : Walker) : Type 0 where
  pub fine : s.fine ≡ true
  pub over : s.over ≡ true

-- some walk from an address to a boundary takes n cycles
pub record Attained (p : CostParams) (at n : ℕ) : Type 0 where
  pub choices : List Bool
  pub ends : Ends (walk p choices (begin p at))
  pub takes : (walk p choices (begin p at)).clock ≡ n

-- n is the greatest number of cycles of the walks from an address to a boundary
pub record IsGreatestTime (p : CostParams) (at n : ℕ) : Type 0 where
  pub attained : Attained p at n
  pub greatest : (choices : List Bool) → Ends (walk p choices (begin p at)) → (walk p choices (begin p at)).clock ≤ n

-- n is the cost of an opcode
abbrev pub IsCost : (op : ℕ) → CostParams → ℕ → Type 0
IsCost op p n = IsGreatestTime p (slice_index ENTRIES op) n

-- n is the cost of a step of the raise routine
abbrev pub IsRaiseCost : CostParams → ℕ → Type 0
IsRaiseCost p n = IsGreatestTime p RAISE n

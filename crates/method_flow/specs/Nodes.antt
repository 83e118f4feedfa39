-- Where control goes in a method: the graph of its instructions and of the raise steps at them (JVM Specification SE 8, 2.6, 2.10 and 6.5).
use Rattle.std.specs.Prelude.{◌≡◌, ◌⊎◌, ℕ, ◌+◌, ◌*◌, ◌<◌, ◌≤◌, true, List, Contains, ℤ, pos, ◌+ℤ◌}
use Rattle.std.specs.Option.{IsSomeAnd}
use Rattle.opcodes.specs.Row as opcodes
use Rattle.opcodes.specs.declared.instruction.Case.{Case}
use Rattle.bytecode_model.specs.Program.{Program, Handler, body_of, instr_at}
use Rattle.bytecode_model.specs.Rows as rows
use Rattle.bytecode_model.specs.Rows.{Row}
use Rattle.bytecode_model.specs.Steps.{row_in}

-- An instruction, by its place, or the raise step at it: the search for a handler of an object that was raised there (2.10).
pub data Node : Type 0 where
  At : (place : ℕ) → Node
  RaiseAt : (place : ℕ) → Node

-- Nodes are numbered by place, an instruction before its raise step.
abbrev pub number_of : Node → ℕ
number_of (At p) = 2 * p
number_of (RaiseAt p) = 2 * p + 1

-- ---- edges

-- the place at this offset from another
abbrev pub IsAtOffset : (place : ℕ) → (offset : ℤ) → (target : ℕ) → Type 0
IsAtOffset p offset q = pos p +ℤ offset ≡ pos q

-- Where an instruction leads without a raise, by its row: a jump to its offset, a branch there or on, a switch to its default or to a case; a return and athrow
-- lead nowhere, and each other one leads to the place behind it. The invoke instructions are such; whether their methods ever return is another question.
abbrev pub LeadsTo : (place next : ℕ) → Row → ℕ → Type 0
LeadsTo p next (rows.Jump offset) q = IsAtOffset p offset q
LeadsTo p next (rows.Branch taken test offset) q = IsAtOffset p offset q ⊎ (q ≡ next)
LeadsTo p next (rows.BranchSame wanted offset) q = IsAtOffset p offset q ⊎ (q ≡ next)
LeadsTo p next (rows.BranchNull wanted offset) q = IsAtOffset p offset q ⊎ (q ≡ next)
LeadsTo p next (rows.Switch default cases) q = IsAtOffset p default q ⊎ ((c : Case) × Contains cases c × IsAtOffset p c.offset q)
LeadsTo p next (rows.Return result) q = ⊥
LeadsTo p next rows.Throw q = ⊥
LeadsTo p next r q = q ≡ next

-- the row of the instruction at a place, and the place behind it
abbrev pub OnRow : Program → (method place : ℕ) → (ℕ → Row → Type 0) → Type 0
OnRow P m p K = IsSomeAnd (row_in P m p) (λ x. K x.0 x.1)

-- the instruction's opcode is one that may raise
abbrev pub MayRaise : Program → (method place : ℕ) → Type 0
MayRaise P m p = IsSomeAnd (instr_at P m p) (λ i. (opcodes.row_of i.op).raises ≡ true)

-- an entry of the exception table that covers the place p has its handler at q (4.7.3)
pub record IsHandled (handlers : List Handler) (p q : ℕ) : Type 0 where
  pub entry : Handler
  pub among : Contains handlers entry
  pub from : entry.start ≤ p
  pub to : p < entry.end
  pub handler : entry.target ≡ q

-- An instruction leads to its successors and, if it may raise, to the raise step at it; a raise step leads to each handler that covers the instruction.
abbrev pub IsEdge : Program → (method : ℕ) → Node → Node → Type 0
IsEdge P m (At p) (At q) = OnRow P m p (λ next r. LeadsTo p next r q)
IsEdge P m (At p) (RaiseAt q) = (q ≡ p) × MayRaise P m p
IsEdge P m (RaiseAt p) (At q) = IsSomeAnd (body_of P m) (λ b. IsHandled b.handlers p q)
IsEdge P m (RaiseAt p) (RaiseAt q) = ⊥

-- ---- exits

abbrev pub IsReturn : Row → Type 0
IsReturn (rows.Return result) = Unit {0}
IsReturn r = ⊥

-- Control may leave the method at a return (2.6.4) and at every raise step (2.6.5), since a handler need not catch the object.
abbrev pub IsExit : Program → (method : ℕ) → Node → Type 0
IsExit P m (At p) = OnRow P m p (λ next r. IsReturn r)
IsExit P m (RaiseAt p) = Unit {0}

-- ---- reach

-- the nodes that some edges reach from the first instruction
pub data IsReached (IsEdgeIn : Node → Node → Type 0) : Node → Type 0 where
  first : IsReached IsEdgeIn (At 0)
  later : {u v : Node} → IsReached IsEdgeIn u → IsEdgeIn u v → IsReached IsEdgeIn v

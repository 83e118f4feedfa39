-- What a node of a method takes by itself, the methods that it runs and their loads apart.
use Rattle.std.specs.Prelude.{◌≡◌, ℕ, ◌+◌, ◌≤◌, length, Option, option_map}
use Rattle.std.specs.Option.{IsSomeAnd}
use Rattle.micro_flow.specs.declared.CostParams.{CostParams}
use Rattle.micro_flow.specs.Costs.{AreInRange, IsGreatestInvoke}
use Rattle.micro_flow.specs.Walk.{IsCost, IsRaiseCost}
use Rattle.opcodes.specs.Bytes.{u1}
use Rattle.bytecode_model.specs.Program.{Program, body_of, instr_at}
use Rattle.method_flow.specs.declared.timing.Timing.{Timing}
use Rattle.method_flow.specs.Nodes.{Node, At, RaiseAt}
use Rattle.method_flow.specs.Calls.{IsCall}
use Rattle.method_flow.specs.Regions.{IsGreatestLoad}

-- what a walk of the microcode depends on: the waits, the pairs of a lookup switch, and the entries of an exception table
abbrev pub params : Timing → (pairs entries : ℕ) → CostParams
params t pairs entries = record { r = t.read; w = t.write; pairs = pairs; entries = entries }

-- The greatest number of cycles of the microcode of the opcode at the instruction's place, or of one raise step over the method's exception table, where each
-- look-up of the method cache hits.
abbrev pub IsOwnCost : Program → Timing → (method : ℕ) → Node → ℕ → Type 0
IsOwnCost P t m (At p) c = IsSomeAnd (body_of P m) (λ b. IsSomeAnd (instr_at P m p) (λ i. IsCost (u1 b.code p) (params t i.count 0) c))
IsOwnCost P t m (RaiseAt p) c = IsSomeAnd (body_of P m) (λ b. IsRaiseCost (params t 0 (length b.handlers)) c)

-- What is printed of a method, by its number with all loads: before it the dearest invoke, and after it the greatest load of a method, of whichever
-- control comes back to.
pub record IsPrintedOf (P : Program) (t : Timing) (full printed : Option ℕ) : Type 0 where
  pub invoke : ℕ
  pub is_invoke : IsGreatestInvoke (params t 0 0) invoke
  pub greatest_load : ℕ
  pub is_load : IsGreatestLoad P t.read greatest_load
  pub is : printed ≡ option_map (λ n. invoke + n + greatest_load) full

-- an invoke costs at most what the dearest of the four invokes costs
abbrev pub InvokesKeepTheGreatest : Type 0
InvokesKeepTheGreatest = (P : Program) (t : Timing) (m p greatest : ℕ) → AreInRange (params t 0 0) → IsCall P m p → IsGreatestInvoke (params t 0 0) greatest
    → (own : ℕ) × IsOwnCost P t m (At p) own × (own ≤ greatest)

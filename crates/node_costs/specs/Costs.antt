-- What the nodes of a method cost by themselves, by their numbers, and what it takes to load methods.
use Rattle.std.specs.Prelude.{◌≡◌, ℕ, ◌+◌, ◌*◌, ◌<◌, ◌%◌, ◌/◌, ◌==◌, if◌then◌else◌, List, length, slice_index, slice_get, Option, Some, None, Ok}
use Rattle.base.specs.Packed.{words_for}
use Rattle.method_cache.specs.Regions.Region.{load_stall}
use Rattle.opcodes.specs.declared.instruction.Instr.{Instr}
use Rattle.opcodes.specs.Bytes.{u1}
use Rattle.opcodes.specs.Instruction.{decoded}
use Rattle.opcodes.specs.Start.{IsStart}
use Rattle.micro_flow.specs.Walk.{IsCost}
use Rattle.bound_texts.specs.Loops.Bounds.{LoopBound, bound_in}
use Rattle.bytecode_model.specs.Lists.{onto}
use Rattle.bytecode_model.specs.Program.{Program}
use Rattle.method_flow.specs.declared.timing.Timing.{Timing}
use Rattle.method_flow.specs.Nodes.{At, RaiseAt}
use Rattle.method_flow.specs.Costs.{params, IsOwnCost}
use Rattle.method_flow.specs.Flow.{Coded, Flow}
use Rattle.method_flow.specs.Keeping.{BoundOf}

-- ---- own costs

-- for each byte of the code two numbers: where an instruction begins, its own cost and that of the raise step at it; elsewhere any
pub record AreOwnCosts (P : Program) (t : Timing) (m : ℕ) (code : List ℕ) (costs : List ℕ) : Type 0 where
  pub long : length costs ≡ 2 * length code
  pub instructions : (p : ℕ) → IsStart code p → IsOwnCost P t m (At p) (slice_index costs (2 * p))
  pub raises : (p : ℕ) → IsStart code p → IsOwnCost P t m (RaiseAt p) (slice_index costs (2 * p + 1))

-- the cost of the whole instruction at a place of a code
pub record IsInstructionCost (code : List ℕ) (t : Timing) (p cost : ℕ) : Type 0 where
  pub instr : Instr
  pub is : decoded code p ≡ Ok instr
  pub cycles : IsCost (u1 code p) (params t instr.count 0) cost

-- by the code alone, where every raise step costs the same
pub record AreCodeCosts (code : List ℕ) (t : Timing) (raise : ℕ) (costs : List ℕ) : Type 0 where
  pub long : length costs ≡ 2 * length code
  pub instructions : (p : ℕ) → IsStart code p → IsInstructionCost code t p (slice_index costs (2 * p))
  pub raises : (p : ℕ) → p < length code → slice_index costs (2 * p + 1) ≡ raise

-- ---- bounds of loops

-- the bounds that lines give for the loops of methods, by the methods' names
abbrev pub bounds_of : Flow → List LoopBound → BoundOf
bounds_of f lines m p = onto (slice_get f.methods m) (λ k. bound_in k.name p lines)

-- the bound of the loop whose header is a node: that of its place, and none where it is a raise step
abbrev pub bound_of_node : Flow → List LoopBound → (method node : ℕ) → Option ℕ
bound_of_node f lines m h = if h % 2 == 0 then bounds_of f lines m (h / 2) else None

-- ---- loads

-- the cycles that the load of a code stalls
abbrev pub code_load : (read : ℕ) → (code : List ℕ) → ℕ
code_load read code = load_stall read (words_for (length code))

-- and that of a method of the table
abbrev pub method_load : (read : ℕ) → List Coded → (method : ℕ) → ℕ
method_load read methods m = elim (slice_get methods m) [ None ↦ 0 | Some k ↦ code_load read k.code ]

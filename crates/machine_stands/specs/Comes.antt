-- A step of the bytecode as a run of the machine to the next boundary.
use Rattle.std.specs.Prelude.{◌≡◌, ℕ, ◌+◌, ◌%◌, ◌^◌, ◌<◌, ◌≤◌, Bool, true, false, List, [], ◌∷◌, ◌++◌, length, ◌==◌, if◌then◌else◌, Some, None, IsSomeAnd}
use Rattle.std.specs.declared.option.Option.{Option}
use Rattle.base.specs.Packed.{words_of_bytes}
use Rattle.method_cache.specs.Contents.{is_cached, loaded}
use Rattle.micro_flow.specs.declared.CostParams.{CostParams}
use Rattle.micro_flow.specs.Walk.{IsCost, IsRaiseCost}
use Rattle.opcodes.specs.Bytes.{u1}
use Rattle.jop_core.specs.State as machine
use Rattle.jop_core.specs.Operations.{load_stall}
use Rattle.jop_core.specs.Cycle.{at_boundary}
use Rattle.jop_core.specs.Scene.{run, begun, output_during}
use Rattle.micro_sketch.specs.Step.{HasNoBoundary}
use Rattle.bytecode_model.specs.declared.Ending.{Ending}
use Rattle.bytecode_model.specs.declared.Ending.TheVariants.{Running, Raising}
use Rattle.bytecode_model.specs.State.{Frame, State}
use Rattle.bytecode_model.specs.Program.{Program, Body, body_of, instr_at}
use Rattle.image_facts.specs.Places.{Places}
use Rattle.machine_stands.specs.StandsFor.{StandsFor}

-- ---- what the step may cost

-- with this memory, for so many pairs of a lookupswitch, or entries of an exception table
abbrev pub params : machine.MachineState → (pairs entries : ℕ) → CostParams
params m pairs entries = record { r = m.port.read; w = m.port.write; pairs = pairs; entries = entries }

-- c is what the opcode at the frame's place costs, or a step of the raise routine over the frame
abbrev pub IsFrameCost : Program → machine.MachineState → Ending → Frame → Body → ℕ → Type 0
IsFrameCost P m Running f b c = IsSomeAnd (instr_at P f.method f.pc) (λ i. IsCost (u1 b.code f.pc) (params m i.count 0) c)
IsFrameCost P m (Raising p) f b c = IsRaiseCost (params m 0 (length b.handlers)) c
IsFrameCost P m mode f b c = ⊥

abbrev pub IsTopCost : Program → machine.MachineState → Ending → List Frame → ℕ → Type 0
IsTopCost P m mode [] c = ⊥
IsTopCost P m mode (f ∷ callers) c = IsSomeAnd (body_of P f.method) (λ b. IsFrameCost P m mode f b c)

-- c is what the step from the state costs where its look-up hits
abbrev pub IsStepCost : Program → machine.MachineState → State → ℕ → Type 0
IsStepCost P m s c = IsTopCost P m s.mode s.frames c

-- ---- which method it looks up

abbrev pub top_method : List Frame → Option ℕ
top_method [] = None
top_method (f ∷ callers) = Some f.method

-- That of the frame that runs then, where it has just become the top one, by an invoke or a return, or where one of its handlers was entered.
abbrev pub found_between : (before after : List Frame) → (mode mode' : Ending) → Option ℕ
found_between fs gs Running Running = if length fs == length gs then None else top_method gs
found_between fs gs (Raising p) Running = top_method gs
found_between fs gs mode mode' = None

abbrev pub found_by : State → State → Option ℕ
found_by s s' = found_between s.frames s'.frames s.mode s'.mode

-- a look-up of a method at a place, with these words: a hit takes no time, a miss stalls for the load
abbrev pub Found : (is_hit : Bool) → (place : ℕ) → (words : List ℕ) → (old new : machine.MachineState) → (stall : ℕ) → Type 0
Found true place words old new stall = (stall ≡ 0) × (new.cache ≡ old.cache) × (new.hits ≡ (old.hits + 1) % 2 ^ 64) × (new.misses ≡ old.misses)
Found false place words old new stall =
    (stall ≡ load_stall old.port (length words)) × (new.cache ≡ loaded place words old.cache) × (new.hits ≡ old.hits) × (new.misses ≡ (old.misses + 1) % 2 ^ 64)

-- the one look-up of a method, or none
abbrev pub LooksUp : Program → Places → Option ℕ → (old new : machine.MachineState) → (stall : ℕ) → Type 0
LooksUp P pl None old new stall = (stall ≡ 0) × (new.cache ≡ old.cache) × (new.hits ≡ old.hits) × (new.misses ≡ old.misses)
LooksUp P pl (Some k) old new stall = IsSomeAnd (body_of P k)
    (λ b. Found (is_cached (pl.method k) old.cache) (pl.method k) (words_of_bytes b.code) old new stall)

-- ---- the run

-- From the machine m, which stands for s, the next boundary is where one stands for s'.
pub record ComesTo (P : Program) (pl : Places) (n size : ℕ) (m : machine.MachineState) (s s' : State) : Type 0 where
  pub new : machine.MachineState
  -- where the input gives the answers that the step takes, whatever more it would give
  pub answers : List (Option ℕ)
  pub took : s'.answers ≡ s.answers ++ answers
  pub cycles : ℕ
  pub positive : 0 < cycles
  pub ran : (more : List (Option ℕ)) → (run cycles (begun m (answers ++ more))).state ≡ new
  pub left : (more : List (Option ℕ)) → (run cycles (begun m (answers ++ more))).answers ≡ more
  pub boundary : at_boundary new ≡ true
  pub quiet : HasNoBoundary cycles m answers
  pub stands : StandsFor P pl n size new s'
  -- what it puts out is the output of the step
  pub put : s'.output ≡ s.output ++ output_during cycles (begun m answers)
  -- its cycles are at most the cost of the step, and the stall of its look-up
  pub micro : ℕ
  pub stall : ℕ
  pub sum : cycles ≡ micro + stall
  pub cost : (c : ℕ) → IsStepCost P m s c → micro ≤ c
  pub look_up : LooksUp P pl (found_by s s') m new stall

-- What is asked of a run so far where the needs of memory are promised to suffice (JVM Specification SE 8, 2.5.2 and 2.5.3).
use Rattle.std.specs.Prelude.{◌≡◌, ℕ, ℤ, pos, ◌≤◌, ◌≤ℤ◌, true, List, [], ◌∷◌, Some, None, IsSome}
use Rattle.std.specs.declared.option.Option.{Option}
use Rattle.bytecode_model.specs.declared.Value.{Value}
use Rattle.bytecode_model.specs.declared.Value.TheVariants.{Int}
use Rattle.bytecode_model.specs.declared.Ending.TheVariants.{Running}
use Rattle.bytecode_model.specs.State.{Frame, State}
use Rattle.bytecode_model.specs.Program.{Program, Limits}
use Rattle.bytecode_model.specs.Rows.{Row}
use Rattle.bytecode_model.specs.Steps.{run_from, boot_state, row_at}
use Rattle.bytecode_model.specs.WellFormed.{is_call}
use Rattle.bytecode_typing.specs.Typed.{Typing, Typed}
use Rattle.bytecode_typing.specs.Lawful.{Lawful}
use Rattle.loop_nest.specs.Digraph.{Digraph}
use Rattle.method_flow.specs.Graphs.{IsGraphOf}
use Rattle.method_flow.specs.Keeping.{BoundOf}
use Rattle.code_lines.specs.Lines.{IsPushedBefore}
use Rattle.memory_rules.specs.Heap.{AnArray, made_by, KeepsMaking}
use Rattle.method_runs.specs.Runs.{Walks, walks_from, boot_walks}
use Rattle.method_runs.specs.Laws.{GivesBytes}

-- a run of a typed program from its boot state, where the input gives bytes
pub record RunsFromBoot (P : Program) (types : Typing) (input : ℕ → Option ℕ) (boot : State) : Type 0 where
  pub lawful : Lawful P
  pub typed : Typed P types
  pub gives : GivesBytes input
  pub begins : boot_state P ≡ Some boot

-- the state goes on at an instruction whose row has the property
pub record StandsAt (P : Program) (s : State) (K : Row → Type 0) : Type 0 where
  pub frame : Frame
  pub callers : List Frame
  pub frames : s.frames ≡ frame ∷ callers
  pub running : s.mode ≡ Running
  pub next : ℕ
  pub row : Row
  pub is : row_at P frame ≡ Some (next, row)
  pub has : K row

-- at an invoke
abbrev pub StandsAtCall : Program → State → Type 0
StandsAtCall P s = StandsAt P s (λ r. is_call r ≡ true)

-- at an instruction that makes objects
abbrev pub StandsAtMaking : Program → State → Type 0
StandsAtMaking P s = StandsAt P s (λ r. IsSome (made_by P r))

-- in each frame the walk so far keeps the bounds that are given for the loops that make objects
abbrev pub FramesKeep : Program → (bounds : BoundOf) → List Frame → Walks → Type 0
FramesKeep P bounds [] ws = Unit {0}
FramesKeep P bounds (f ∷ fs) [] = Unit {0}
FramesKeep P bounds (f ∷ fs) (None ∷ ws) = FramesKeep P bounds fs ws
FramesKeep P bounds (f ∷ fs) (Some us ∷ ws) = ((g : Digraph) → IsGraphOf P f.method g → KeepsMaking P bounds f.method g us) × FramesKeep P bounds fs ws

-- Where the state goes on at an instruction that makes an array, whose length is given and no constant, it asks for at most that length.
abbrev pub AsksAtMost : Program → (lengths : BoundOf) → State → Type 0
AsksAtMost P lengths s =
    (f : Frame) (callers : List Frame) (next element n : ℕ) (r : Row) (asked : ℤ) (rest : List Value) → s.frames ≡ f ∷ callers → s.mode ≡ Running
    → row_at P f ≡ Some (next, r) → made_by P r ≡ Some (AnArray element) → f.operands ≡ Int asked ∷ rest → lengths f.method f.pc ≡ Some n
    → ((c : ℤ) → ¬ IsPushedBefore P f.method f.pc c) → asked ≤ℤ pos n

-- so far the run from the boot state kept the bounds and the lengths, at its last state too
pub record KeptSoFar (P : Program) (limits : Limits) (bounds lengths : BoundOf) (input : ℕ → Option ℕ) (boot : State) (n : ℕ) : Type 0 where
  pub loops : (k : ℕ) → k ≤ n → FramesKeep P bounds (run_from P limits input boot k).frames (walks_from P limits input boot boot_walks k)
  pub arrays : (k : ℕ) → k ≤ n → AsksAtMost P lengths (run_from P limits input boot k)

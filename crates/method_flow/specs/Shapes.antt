-- What a step does to the frames of a state (JVM Specification SE 8, 2.6 and 2.10).
use Rattle.std.specs.Prelude.{◌≡◌, ℕ, ◌+◌, true, List, [], ◌∷◌, Some, IfSome, slice_get}
use Rattle.std.specs.declared.option.Option.{Option}
use Rattle.std.specs.Option.{IsSomeAnd}
use Rattle.bytecode_model.specs.declared.Ending.{Ending}
use Rattle.bytecode_model.specs.declared.Ending.TheVariants.{Running, Raising, Ended, Uncaught}
use Rattle.bytecode_model.specs.State.{Object, Frame, State}
use Rattle.bytecode_model.specs.Program.{Program, Limits, Method, instr_at, kind_of}
use Rattle.bytecode_model.specs.Rows.{CallVirtual}
use Rattle.bytecode_model.specs.Steps.{class_of, row_at, step}
use Rattle.method_flow.specs.Nodes.{Node, At, RaiseAt, MayRaise, IsEdge, IsExit}
use Rattle.method_flow.specs.Calls.{IsCall, IsTarget}
use Rattle.method_flow.specs.Live.{IsReturning}

-- the node at which a frame stands: its instruction, or the raise step at it while an object is raised
abbrev pub node_of : Ending → Frame → Node
node_of (Raising p) f = RaiseAt f.pc
node_of mode f = At f.pc

-- the program has not ended
abbrev pub IsGoingOn : Ending → Type 0
IsGoingOn Running = Unit {0}
IsGoingOn (Raising p) = Unit {0}
IsGoingOn Ended = ⊥
IsGoingOn (Uncaught c) = ⊥

-- The frame f, over these callers, was the top one, and t is the next state. A step within the method: along an edge that isn't the return of a call.
pub record Moves (P : Program) (mode : Ending) (f : Frame) (callers : List Frame) (t : State) : Type 0 where
  pub top : Frame
  pub frames : t.frames ≡ top ∷ callers
  pub same : top.method ≡ f.method
  pub going : IsGoingOn t.mode
  pub edge : IsEdge P f.method (node_of mode f) (node_of t.mode top)
  pub free : ¬ IsReturning P f.method (node_of mode f) (node_of t.mode top)

-- A method is entered that the invoke may run, at its first instruction; the frame waits at the invoke (2.6).
pub record Enters (P : Program) (mode : Ending) (f : Frame) (callers : List Frame) (t : State) : Type 0 where
  pub top : Frame
  pub waiting : Frame
  pub frames : t.frames ≡ top ∷ waiting ∷ callers
  pub running : mode ≡ Running
  pub still : t.mode ≡ Running
  pub same : waiting.method ≡ f.method
  pub place : waiting.pc ≡ f.pc
  pub first : top.pc ≡ 0
  pub call : IsCall P f.method f.pc
  pub target : IsTarget P f.method f.pc top.method
  -- there might have been no room for the new frame
  pub may_raise : MayRaise P f.method f.pc

-- The frame is left, and its caller goes on behind the invoke at which it waited (2.6.4).
pub record Returns (P : Program) (mode : Ending) (f : Frame) (callers : List Frame) (t : State) : Type 0 where
  pub caller : Frame
  pub others : List Frame
  pub callers_are : callers ≡ caller ∷ others
  pub top : Frame
  pub frames : t.frames ≡ top ∷ others
  pub running : mode ≡ Running
  pub still : t.mode ≡ Running
  pub same : top.method ≡ caller.method
  pub place : IsSomeAnd (instr_at P caller.method caller.pc) (λ i. top.pc ≡ caller.pc + i.length)
  pub exit : IsExit P f.method (At f.pc)

-- The frame has no handler for the object and is dropped, and its caller raises at its invoke (2.6.5).
pub record Drops (P : Program) (mode : Ending) (f : Frame) (callers : List Frame) (t : State) : Type 0 where
  pub caller : Frame
  pub others : List Frame
  pub callers_are : callers ≡ caller ∷ others
  pub top : Frame
  pub frames : t.frames ≡ top ∷ others
  pub object : ℕ
  pub raising : mode ≡ Raising object
  pub still : t.mode ≡ Raising object
  pub same : top.method ≡ caller.method
  pub place : top.pc ≡ caller.pc

-- what a step does, where the frame f was the top one: one of these, or the program ends with its only frame
pub data FramesStep (P : Program) (mode : Ending) (f : Frame) (callers : List Frame) (t : State) : Type 0 where
  moves : Moves P mode f callers t → FramesStep P mode f callers t
  enters : Enters P mode f callers t → FramesStep P mode f callers t
  returns : Returns P mode f callers t → FramesStep P mode f callers t
  drops : Drops P mode f callers t → FramesStep P mode f callers t
  stops : callers ≡ [] → ¬ IsGoingOn t.mode → FramesStep P mode f callers t

-- no object is of an abstract class or of an interface (6.5.new); the fit of a state to its program says it
abbrev pub AreConcrete : Program → List Object → Type 0
AreConcrete P os = (p : ℕ) → IfSome (slice_get os p) (λ o. IfSome (kind_of P o) (λ k. IfSome (class_of k) (λ c. P.is_concrete c ≡ true)))

-- Where the frame stands at an invokevirtual, what is the named class or below it is also the resolved method's class or below it (5.4.3.3); a lawful
-- program says it.
abbrev pub NamesAbove : Program → Frame → Type 0
NamesAbove P f =
    (next named m : ℕ) (k : Method) → row_at P f ≡ Some (next, CallVirtual named m) → slice_get P.methods m ≡ Some k → (c : ℕ) → P.extends c named ≡ true
    → P.extends c k.owner ≡ true

-- each step is one of these
abbrev pub StepsHaveShapes : Type 0
StepsHaveShapes = (P : Program) (limits : Limits) (answer : Option ℕ) (s t : State) (f : Frame) (callers : List Frame) → s.frames ≡ f ∷ callers
    → AreConcrete P s.objects → NamesAbove P f
    → step P limits answer s ≡ Some t → FramesStep P s.mode f callers t

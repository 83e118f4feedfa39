-- The visits of the frames of a run.
use Rattle.std.specs.Prelude.{◌≡◌, ℕ, ℤ, true, List, [], ◌∷◌, Some, None, slice_get}
use Rattle.std.specs.Option.{IsSomeAnd}
use Rattle.std.specs.declared.option.Option.{Option}
use Rattle.bytecode_model.specs.declared.Value.{Value}
use Rattle.bytecode_model.specs.declared.Value.TheVariants.{Int, Null}
use Rattle.bytecode_model.specs.declared.Ending.{Ending}
use Rattle.bytecode_model.specs.State.{Object, Frame, State}
use Rattle.bytecode_model.specs.Program.{Program, Limits, kind_of}
use Rattle.bytecode_model.specs.Effects.{has_class}
use Rattle.bytecode_model.specs.Steps.{step, run_from, boot_state}
use Rattle.bytecode_model.specs.WellFormed.{IsInput}
use Rattle.bytecode_typing.specs.Typed.{Typing, Typed}
use Rattle.bytecode_typing.specs.Lawful.{Lawful}
use Rattle.bytecode_typing.specs.Fits.{Fits}
use Rattle.method_flow.specs.Nodes.{Node, At}
use Rattle.code_lines.specs.Lines.{IsNeverPut}
use Rattle.loop_rules.specs.Tests.{Constants}
use Rattle.loop_rules.specs.Further.Known.{Known}
use Rattle.loop_rules.specs.Further.Fields.{PutOnlyArrays}
use Rattle.loop_rules.specs.Further.Found.{only_constants}
use Rattle.method_runs.specs.Runs.{Walks, walks_from, boot_walks, unknown_walks}
use Rattle.method_runs.specs.Standing.{last_node}
use Rattle.method_runs.specs.Laws.{GivesBytes}
use Rattle.counted_laws.specs.Visits.{Visit, Path, Grows, IsArrayOf, lengths_of}

-- ---- what fields hold

-- the fields hold their constants
abbrev pub HoldConstants : Program → Constants → State → Type 0
HoldConstants P constants s = (f : ℕ) (c : ℤ) → constants f ≡ Some c → IsNeverPut P f → slice_get s.statics f ≡ Some (Int c)

-- these fields hold null or such arrays; an instance field does in each object of its class or of a subclass
pub record HoldArrays (P : Program) (known : Known) (s : State) : Type 0 where
  pub statics : (f n : ℕ) → known.statics f ≡ Some n → IsSomeAnd (slice_get s.statics f) (IsArrayOf (lengths_of s.objects) n)
  pub fields : (owner index n p : ℕ) (o : Object) → known.fields owner index ≡ Some n → slice_get s.objects p ≡ Some o → has_class P (kind_of P o) owner ≡ true
      → IsSomeAnd (slice_get o.parts index) (IsArrayOf (lengths_of s.objects) n)

pub record HoldKnown (P : Program) (known : Known) (s : State) : Type 0 where
  pub constants : HoldConstants P known.constants s
  pub arrays : HoldArrays P known s

-- the fields that are known to hold arrays hold null at first
pub record AreNullAtFirst (P : Program) (known : Known) : Type 0 where
  pub statics : (f n : ℕ) → known.statics f ≡ Some n → slice_get P.first_statics f ≡ Some Null
  pub fields : (owner index n p : ℕ) (o : Object) → known.fields owner index ≡ Some n → slice_get P.first_objects p ≡ Some o
      → has_class P (kind_of P o) owner ≡ true → slice_get o.parts index ≡ Some Null

-- so the boot state holds what is known of fields
abbrev pub BootHoldsKnown : Type 0
BootHoldsKnown =
    (P : Program) (known : Known) (s : State) → boot_state P ≡ Some s → AreNullAtFirst P known → HoldConstants P known.constants s → HoldKnown P known s

-- ---- visits

-- a frame whose walk is known has visits with these nodes, from its first instruction to the node u, where it has these operands
abbrev pub HasPath : Program → Known → Frame → Node → (operands : List Value) → (lengths : List ℕ) → Option (List ℕ) → Type 0
HasPath P known f u ops ls None = Unit {0}
HasPath P known f u ops ls (Some ns) =
    (a : Visit) × (a.node ≡ At 0) × Path P known f.method a (record { node = u; locals = f.locals; operands = ops; lengths = ls }) ns

-- so have frames that wait, each to its invoke, since which objects may have been made
abbrev pub WaitingPaths : Program → Known → (lengths : List ℕ) → List Frame → Walks → Type 0
WaitingPaths P known ls [] [] = Unit {0}
WaitingPaths P known ls (f ∷ fs) (w ∷ ws) =
    ((ops : List Value) × (before : List ℕ) × Grows before ls × HasPath P known f (At f.pc) ops before w) × WaitingPaths P known ls fs ws
WaitingPaths P known ls fs ws = ⊥

abbrev pub HavePaths : Program → Known → (lengths : List ℕ) → Ending → List Frame → Walks → Type 0
HavePaths P known ls mode (f ∷ fs) (w ∷ ws) = HasPath P known f (last_node mode f) f.operands ls w × WaitingPaths P known ls fs ws
HavePaths P known ls mode fs ws = ⊥

-- Along each run from a state that fits, in which the fields hold their constants, each frame that is made since has its visits.
abbrev pub RunsHavePaths : Type 0
RunsHavePaths =
    (P : Program) (types : Typing) (limits : Limits) (constants : Constants) (input : ℕ → Option ℕ) (s : State) (n : ℕ) → Lawful P → Typed P types
    → GivesBytes input
    → Fits P types limits s → HoldConstants P constants s
    → let t = run_from P limits input s n in
    HavePaths P (only_constants constants) (lengths_of t.objects) t.mode t.frames (walks_from P limits input s (unknown_walks s) n)

-- a state to which a run from another one comes, by a byte of the input, or its end, at each step that asks
pub data IsOfRun (P : Program) (limits : Limits) (s : State) : State → Type 0 where
  same : IsOfRun P limits s s
  next : {t u : State} (answer : Option ℕ) → IsOfRun P limits s t → IsInput answer → step P limits answer t ≡ Some u → IsOfRun P limits s u

-- In each state of a run from the boot state fields hold what is known of them, where they do in the boot state and each put of them puts such arrays.
abbrev pub RunsHoldKnown : Type 0
RunsHoldKnown =
    (P : Program) (types : Typing) (limits : Limits) (known : Known) (s t : State) → Lawful P → Typed P types → Fits P types limits s → boot_state P ≡ Some s
    → PutOnlyArrays P known → HoldKnown P known s
    → IsOfRun P limits s t → HoldKnown P known t

-- so in the run for each input, and each frame has its visits
abbrev pub RunsHoldArrays : Type 0
RunsHoldArrays =
    (P : Program) (types : Typing) (limits : Limits) (known : Known) (input : ℕ → Option ℕ) (s : State) (n : ℕ) → Lawful P → Typed P types → GivesBytes input
    → Fits P types limits s → boot_state P ≡ Some s → PutOnlyArrays P known → HoldKnown P known s
    → let t = run_from P limits input s n in
    HoldKnown P known t × HavePaths P known (lengths_of t.objects) t.mode t.frames (walks_from P limits input s boot_walks n)

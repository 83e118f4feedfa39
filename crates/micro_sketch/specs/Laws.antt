-- What holds of every sketch.
use Rattle.std.specs.Prelude.{ℕ, ◌≡◌, suc, ◌+◌, ◌^◌, ◌<◌, ◌≤◌, true, false, Bool, List, [], ◌++◌, length, slice_index}
use Rattle.std.specs.declared.option.Option.{Option}
use mathlib.Core.List.{reverse_aux}
use Rattle.microcode.specs.declared.isa.operation.Operation.TheVariants.{Ldmi, Stsp}
use Rattle.microcode.specs.declared.TheConstants.{ENTRIES, RAISE}
use Rattle.micro_flow.specs.declared.CostParams.{CostParams}
use Rattle.micro_flow.specs.Walk.{turns_at, IsGreatestTime, IsCost, IsRaiseCost}
use Rattle.jop_core.specs.State.{MachineState}
use Rattle.jop_core.specs.Cycle.{at_boundary}
use Rattle.jop_core.specs.Scene.{Scene, run}
use Rattle.micro_sketch.specs.Sketch.{Sketch, apop, apush, exec, lead, opd_byte}
use Rattle.micro_sketch.specs.Stands.{Env, Shaped, PortFits, Goes, Reaches, IsDone, conc, scene, stalls}
use Rattle.micro_sketch.specs.Frames.{whole, split, reframed, cut, RunsNext}
use Rattle.micro_sketch.specs.View.{sketch_of, env_of, Viewable}

-- The machine with n on-chip words that x stands for comes to what x comes to.
abbrev pub MachineFollows : Type 0
MachineFollows = (k : ℕ) (guesses : List Bool) (n : ℕ) (x : Sketch) (e : Env) → Shaped n x → PortFits x.busy e → (exec (suc k) guesses x).fine ≡ true →
    Reaches n x (exec (suc k) guesses x) e

-- The words from place 64 on can be split anywhere, if SP stays: the machine is the same.
abbrev pub SplitsAnywhere : Type 0
SplitsAnywhere = (n : ℕ) (x : Sketch) (e : Env) (deep under above : List ℕ) → Shaped n x → whole x ≡ deep ++ reverse_aux under above →
    length x.deep + length x.under ≡ length deep + length under → (scene n x e ≡ scene n (split x deep under above) e) × Shaped n (split x deep under above)

-- The last deep words can be taken as part of the moving part: the machine is the same.
abbrev pub Reframes : Type 0
Reframes = (n : ℕ) (x : Sketch) (e : Env) (deep words : List ℕ) → Shaped n x → x.deep ≡ deep ++ reverse_aux words [] →
    (scene n x e ≡ scene n (reframed x deep words) e) × Shaped n (reframed x deep words)

-- A word stsp moves SP to any place from 63 on, wherever that splits the words.
abbrev pub StackPointerMoves : Type 0
StackPointerMoves = (n : ℕ) (x : Sketch) (e : Env) (opd nxt : Bool) (deep under above : List ℕ) → Goes x → Shaped n x → PortFits x.busy e
    → RunsNext Stsp opd nxt x →
    whole (apop x) ≡ deep ++ reverse_aux under above → x.top ≡ length deep + 63 + length under
    → (lead nxt (opd_byte opd (split (apop x) deep under above))).fine ≡ true →
    Reaches n x (lead nxt (opd_byte opd (split (apop x) deep under above))) e

-- So where SP comes down to a place among the deep words.
abbrev pub StackPointerComesDown : Type 0
StackPointerComesDown = (n : ℕ) (x : Sketch) (e : Env) (opd nxt : Bool) (deep under gone : List ℕ) → Goes x → Shaped n x → PortFits x.busy e
    → RunsNext Stsp opd nxt x →
    (apop x).deep ≡ deep ++ reverse_aux under gone → x.top ≡ length deep + 63 + length under → (lead nxt (opd_byte opd (cut x deep under gone))).fine ≡ true →
    Reaches n x (lead nxt (opd_byte opd (cut x deep under gone))) e

-- x with the word of a place below 32 on its stack
abbrev pub with_low : ℕ → Sketch → Sketch
with_low place x = apush (slice_index x.low place) x

-- A word ldmi whose AR is below 32 puts that low word on the stack.
abbrev pub LowWordIsLoaded : Type 0
LowWordIsLoaded = (n : ℕ) (x : Sketch) (e : Env) (opd nxt : Bool) → Goes x → Shaped n x → PortFits x.busy e → RunsNext Ldmi opd nxt x → x.ar < 32 →
    (lead nxt (opd_byte opd (with_low x.ar x))).fine ≡ true → Reaches n x (lead nxt (opd_byte opd (with_low x.ar x))) e

-- Each machine in range is what its sketch stands for, wherever its words are split.
abbrev pub SeenAsSketch : Type 0
SeenAsSketch = (n d u : ℕ) (answers : List (Option ℕ)) (s : MachineState) → Viewable n d u s
    → (s ≡ conc n (sketch_of d u answers s) (env_of s)) × Shaped n (sketch_of d u answers s)

-- a run of so many cycles from x to z, with what it leaves out at the end
pub record RunsFor (n : ℕ) (x z : Sketch) (e : Env) (cycles : ℕ) (env : Env) : Type 0 where
  pub reaches : Reaches n x z e
  pub takes : reaches.cycles ≡ cycles
  pub leaves : reaches.env ≡ env

-- Two runs make one, where the first doesn't end at a boundary.
abbrev pub RunsGoOn : Type 0
RunsGoOn = (n : ℕ) (x y z : Sketch) (e : Env) (a : Reaches n x y e) (b : Reaches n y z a.env) → y.done ≡ false → RunsFor n x z e (a.cycles + b.cycles) b.env

-- the sketches stand for the same machine at the same place, with the same turns left
pub record Alike (n : ℕ) (x y : Sketch) : Type 0 where
  pub same : (e : Env) → scene n x e ≡ scene n y e
  pub mpc : y.mpc ≡ x.mpc
  pub left : y.left ≡ x.left
  pub busy : y.busy ≡ x.busy
  pub done : y.done ≡ x.done
  pub shape : Shaped n x → Shaped n y

-- A run goes between any sketches that are like its ends, if they count the same loads on the way.
abbrev pub RunsBetweenAlike : Type 0
RunsBetweenAlike = (n : ℕ) (x x' y y' : Sketch) (e : Env) (a : Reaches n x y e) → Alike n x x' → Alike n y y' → x'.fine ≡ true
    → ((r : ℕ) → stalls y' r + stalls x r ≡ stalls y r + stalls x' r) →
    RunsFor n x' y' e a.cycles a.env

-- x is about to run the microcode at an address
pub record StartsAt (p : CostParams) (address : ℕ) (x : Sketch) (e : Env) : Type 0 where
  pub at : address ≡ x.mpc
  pub idle : e.port ≡ 0
  pub turns : turns_at p ≡ x.left
  pub going : x.done ≡ false
  pub none : stalls x p.r ≡ 0
  pub read : p.r ≡ e.read
  pub write : p.w ≡ e.write

-- x is about to run the opcode
abbrev pub AtEntry : CostParams → (op : ℕ) → Sketch → Env → Type 0
AtEntry p op x e = StartsAt p (slice_index ENTRIES op) x e

-- No run from an opcode's entry to a boundary takes more than the opcode's cost and the stalls of its loads.
abbrev pub CostsHold : Type 0
CostsHold = (p : CostParams) (op c n : ℕ) (x y : Sketch) (e : Env) → AtEntry p op x e → (r : Reaches n x y e) → IsDone y → IsCost op p c
    → r.cycles ≤ c + stalls y p.r

-- Nor does a step of the raise routine take more than its cost.
abbrev pub RaiseCostHolds : Type 0
RaiseCostHolds = (p : CostParams) (c n : ℕ) (x y : Sketch) (e : Env) → StartsAt p RAISE x e → (r : Reaches n x y e) → IsDone y → IsRaiseCost p c
    → r.cycles ≤ c + stalls y p.r

-- the first boundary after c comes so many cycles later
pub record FirstBoundary (c : Scene) (cycles : ℕ) : Type 0 where
  pub positive : 0 < cycles
  pub boundary : at_boundary (run cycles c).state ≡ true
  pub quiet : (i : ℕ) → suc i < cycles → at_boundary (run (suc i) c).state ≡ false

-- The first boundary is where the sketch comes to one.
abbrev pub FirstIsReached : Type 0
FirstIsReached = (n : ℕ) (x y : Sketch) (e : Env) (r : Reaches n x y e) → IsDone y → (cycles : ℕ) → FirstBoundary (scene n x e) cycles
    → (cycles ≡ r.cycles) × (run cycles (scene n x e) ≡ scene n y r.env)

-- a boundary comes, after fewer cycles than a counter holds
pub record ComesSoon (c : Scene) : Type 0 where
  pub cycles : ℕ
  pub first : FirstBoundary c cycles
  pub soon : cycles < 2 ^ 62

-- A boundary comes soon where the cost is small.
abbrev pub BoundaryComesSoon : Type 0
BoundaryComesSoon =
    (p : CostParams) (address c n : ℕ) (x y : Sketch) (e : Env)
    → StartsAt p address x e → Reaches n x y e → IsDone y → IsGreatestTime p address c → c + stalls y p.r < 2 ^ 62 → ComesSoon (scene n x e)

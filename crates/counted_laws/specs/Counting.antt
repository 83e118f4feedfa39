-- Loops that count go round at most as often as is read off the code.
use Rattle.std.specs.Prelude.{◌≡◌, ℕ, List, [], ◌∷◌, Some, None}
use Rattle.std.specs.declared.option.Option.{Option}
use Rattle.bytecode_model.specs.State.{Frame, State}
use Rattle.bytecode_model.specs.Program.{Program, Limits}
use Rattle.bytecode_model.specs.Steps.{run_from, boot_state}
use Rattle.bytecode_typing.specs.Typed.{Typing, Typed}
use Rattle.bytecode_typing.specs.Lawful.{Lawful}
use Rattle.bytecode_typing.specs.Fits.{Fits}
use Rattle.loop_nest.specs.Digraph.{Digraph}
use Rattle.loop_nest.specs.Walks.{KeepsBound}
use Rattle.method_flow.specs.Nodes.{At, number_of}
use Rattle.method_flow.specs.Graphs.{IsGraphOf}
use Rattle.loop_rules.specs.Tests.{Constants}
use Rattle.loop_rules.specs.Counted.{CountsBy, CountsTo, EachCycleIsALoop}
use Rattle.loop_rules.specs.Further.Known.{Known, Pushes}
use Rattle.loop_rules.specs.Further.Fields.{PutOnlyArrays}
use Rattle.loop_rules.specs.Further.Beginning.{BeginsAt}
use Rattle.method_runs.specs.Runs.{Walks, walks_from, boot_walks, unknown_walks}
use Rattle.method_runs.specs.Laws.{GivesBytes}
use Rattle.counted_laws.specs.Visits.{Visit, Path}
use Rattle.loop_rules.specs.Further.Found.{only_constants}
use Rattle.counted_laws.specs.Paths.{HoldConstants, HoldKnown}

-- The loop counts with a limit that is known where it is pushed, by one line or by several, and begins with one that is known, by whichever edge it is
-- entered.
abbrev pub CountsFurther : Program → Known → (method : ℕ) → Digraph → (header n : ℕ) → Type 0
CountsFurther P known m g h n = CountsBy P (Pushes P known m) (BeginsAt P known m g (number_of (At h))) m g h n

-- a loop that counts with a limit of one line, and a constant that is stored on its one way in, does so
abbrev pub CountedLoopsAreFurther : Type 0
CountedLoopsAreFurther =
    (P : Program) (known : Known) (m : ℕ) (g : Digraph) (h n : ℕ) → IsGraphOf P m g → CountsTo P known.constants m g h n → CountsFurther P known m g h n

-- visits from a method's first instruction on keep the number of a counted loop
abbrev pub FurtherPathsKeep : Type 0
FurtherPathsKeep =
    (P : Program) (known : Known) (m : ℕ) (g : Digraph) (h n : ℕ) (a b : Visit) (us : List ℕ) → IsGraphOf P m g → EachCycleIsALoop g
    → CountsFurther P known m g h n
    → a.node ≡ At 0 → Path P known m a b us → KeepsBound g (number_of (At h)) n us

-- so where constants alone are known
abbrev pub CountedPathsKeep : Type 0
CountedPathsKeep =
    (P : Program) (constants : Constants) (m : ℕ) (g : Digraph) (h n : ℕ) (a b : Visit) (us : List ℕ) → IsGraphOf P m g → EachCycleIsALoop g
    → CountsTo P constants m g h n
    → a.node ≡ At 0 → Path P (only_constants constants) m a b us → KeepsBound g (number_of (At h)) n us

-- in a frame that was made since, a counted loop goes round at most so often
abbrev pub FramesCount : Program → Constants → List Frame → Walks → Type 0
FramesCount P constants [] ws = Unit {0}
FramesCount P constants (f ∷ fs) [] = Unit {0}
FramesCount P constants (f ∷ fs) (None ∷ ws) = FramesCount P constants fs ws
FramesCount P constants (f ∷ fs) (Some us ∷ ws) =
    ((g : Digraph) (h n : ℕ) → IsGraphOf P f.method g → EachCycleIsALoop g → CountsTo P constants f.method g h n → KeepsBound g (number_of (At h)) n us)
    × FramesCount P constants fs ws

-- Of each run from a state that fits, in which the fields hold their constants, each frame that is made since keeps the numbers of its counted loops.
abbrev pub CountedLoopsKeep : Type 0
CountedLoopsKeep =
    (P : Program) (types : Typing) (limits : Limits) (constants : Constants) (input : ℕ → Option ℕ) (s : State) (n : ℕ) → Lawful P → Typed P types
    → GivesBytes input
    → Fits P types limits s → HoldConstants P constants s
    → FramesCount P constants (run_from P limits input s n).frames (walks_from P limits input s (unknown_walks s) n)

-- in each frame, a loop that counts with what is known further goes round at most so often
abbrev pub FramesCountFurther : Program → Known → List Frame → Walks → Type 0
FramesCountFurther P known [] ws = Unit {0}
FramesCountFurther P known (f ∷ fs) [] = Unit {0}
FramesCountFurther P known (f ∷ fs) (None ∷ ws) = FramesCountFurther P known fs ws
FramesCountFurther P known (f ∷ fs) (Some us ∷ ws) =
    ((g : Digraph) (h n : ℕ) → IsGraphOf P f.method g → EachCycleIsALoop g → CountsFurther P known f.method g h n → KeepsBound g (number_of (At h)) n us)
    × FramesCountFurther P known fs ws

-- Of each run from the boot state, in which fields hold what is known of them and are written by no other instructions, each frame keeps the numbers of
-- the loops that so count.
abbrev pub FurtherLoopsKeep : Type 0
FurtherLoopsKeep =
    (P : Program) (types : Typing) (limits : Limits) (known : Known) (input : ℕ → Option ℕ) (s : State) (n : ℕ) → Lawful P → Typed P types → GivesBytes input
    → Fits P types limits s → boot_state P ≡ Some s → PutOnlyArrays P known → HoldKnown P known s
    → FramesCountFurther P known (run_from P limits input s n).frames (walks_from P limits input s boot_walks n)

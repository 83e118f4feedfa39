-- What `loops` promises: its loops count, and the runs of what is linked keep their numbers, ended or not.
use Rattle.std.specs.Prelude.{ℕ, List, Contains, Bool, true, false, ◌+◌, ◌⊎◌, ◌≡◌, Ok, ℤ, Option, [], ◌∷◌, None, Some}
use Rattle.image_file.specs.Linked as file
use Rattle.command_line.specs.declared.command.Command.TheVariants.{Loops}
use Rattle.bytecode_model.specs.State.{Frame}
use Rattle.bytecode_model.specs.Program.{Program}
use Rattle.loop_rules.specs.declared.found.FoundLoop.{FoundLoop}
use Rattle.loop_rules.specs.Sites.{int_at}
use Rattle.program_sites.specs.Ints.Constants.{AreConstants}
use Rattle.loop_rules.specs.Further.Known.{Known}
use Rattle.loop_rules.specs.Further.Arrays.{IsKnownBy}
use Rattle.activation_laws.specs.Counted.Others.{CountsIn, CountsFurtherIn, KeepsOthers, KeepsFurtherOthers}
use Rattle.analysis_commands.specs.Loops.{AreLoopLines, AreFurtherLines}
use Rattle.endings.specs.declared.show.Show.TheVariants as shows
use Rattle.method_runs.specs.Runs.{Walks, boot_walks}
use Rattle.loop_nest.specs.Digraph.{Digraph}
use Rattle.loop_nest.specs.Walks.{KeepsBound}
use Rattle.method_flow.specs.Nodes.{At, number_of}
use Rattle.method_flow.specs.Graphs.{IsGraphOf}
use Rattle.jop_cli.specs.promises.Words.{Parts, IsLinked, image_of, resolved, IsResolved, Grew, Call, text_of_word, AreFiles, command_of, Written, ClassFile}
use Rattle.jop_cli.specs.promises.Images.{HasNoLoop}
use Rattle.jop_cli.specs.promises.Runs.{RunAt, walks_at}
use Rattle.jop_cli.specs.promises.Activations.{BoundInRun, TakesAtMost}

-- ---- `loops`

-- What the lines say that were put of the loops of what is linked: they are those of its loops that count, and each of these counts to its number.
pub record LoopsCount (c : Call) (bytes : List ℕ) : Type 0 where
  pub linked : Parts
  pub is_linked : IsLinked linked
  pub is_file : file.IsLinkedFile bytes (image_of linked)
  pub are_resolved : IsResolved linked.classes
  pub text : List ℕ
  pub lines : AreLoopLines linked.classes text
  pub put : Grew c.old.out c.new.out text
  pub counts : (x : FoundLoop) → Contains lines.found x → CountsIn (resolved linked.classes) (int_at lines.constants) x.method x.place x.bound

-- so with what is known further
pub record FurtherLoopsCount (c : Call) (bytes : List ℕ) : Type 0 where
  pub linked : Parts
  pub is_linked : IsLinked linked
  pub is_file : file.IsLinkedFile bytes (image_of linked)
  pub are_resolved : IsResolved linked.classes
  pub text : List ℕ
  pub lines : AreFurtherLines linked.classes text
  pub put : Grew c.old.out c.new.out text
  pub counts : (x : FoundLoop) → Contains lines.found x → CountsFurtherIn (resolved linked.classes) lines.known x.method x.place x.bound

abbrev pub LinesCount : Call → (further : Bool) → (bytes : List ℕ) → Type 0
LinesCount c true bytes = FurtherLoopsCount c bytes
LinesCount c false bytes = LoopsCount c bytes

-- What a call shows that answers that the lines of loops are written.
pub record ShowsLoops (c : Call) (further : Bool) (image : ℕ) : Type 0 where
  pub files : List (List ℕ)
  pub are : AreFiles c.old.files image (image + 1) files
  pub shows : LinesCount c further (text_of_word files 0) ⊎ HasNoLoop c (text_of_word files 0)

abbrev pub WrittenLoopsCount : Type 0
WrittenLoopsCount =
    (c : Call) (further : Bool) (image : ℕ) → command_of c.words ≡ Ok (Loops further image) → c.outcome ≡ Written → ShowsLoops c further image

-- In the runs of what is linked a bound of a method asks for the other loops alone: an ended activation keeps it that keeps the bounds of the loops that
-- don't count to them.
abbrev pub CountedLoopsAreKept : Type 0
CountedLoopsAreKept =
    (x : BoundInRun) (constants : List (Option ℤ)) → IsResolved x.linked.classes → AreConstants x.linked.classes constants
    → KeepsOthers (int_at constants) x.bound_of x.ended → TakesAtMost x

-- So it is with what is known further: with these constants, and with the arrays of fields to which only such arrays are put.
abbrev pub FurtherLoopsAreKept : Type 0
FurtherLoopsAreKept =
    (x : BoundInRun) (constants : List (Option ℤ)) (known : Known) → IsResolved x.linked.classes → AreConstants x.linked.classes constants
    → IsKnownBy (resolved x.linked.classes) (int_at constants) known → KeepsFurtherOthers known x.bound_of x.ended → TakesAtMost x

-- In each frame of the loop's method the walk so far took at most so many edges back to the loop's header between an entry and the next leaving.
abbrev pub FramesKeepLoop : Program → FoundLoop → List Frame → Walks → Type 0
FramesKeepLoop P x [] ws = Unit {0}
FramesKeepLoop P x (f ∷ fs) [] = Unit {0}
FramesKeepLoop P x (f ∷ fs) (None ∷ ws) = FramesKeepLoop P x fs ws
FramesKeepLoop P x (f ∷ fs) (Some us ∷ ws) =
    (f.method ≡ x.method → (g : Digraph) → IsGraphOf P x.method g → KeepsBound g (number_of (At x.place)) x.bound us) × FramesKeepLoop P x fs ws

-- So it is at each boundary of a run of what is linked, of each loop of which `loops` put a line.
abbrev pub FoundLoopsAreKept : Type 0
FoundLoopsAreKept =
    (c : Call) (bytes : List ℕ) (loops : LoopsCount c bytes) (r : RunAt loops.linked) (x : FoundLoop) → Contains loops.lines.found x
    → FramesKeepLoop (resolved loops.linked.classes) x r.stage.state.frames (walks_at loops.linked r boot_walks)

-- and of each of which `loops --further` put one
abbrev pub FurtherFoundLoopsAreKept : Type 0
FurtherFoundLoopsAreKept =
    (c : Call) (bytes : List ℕ) (loops : FurtherLoopsCount c bytes) (r : RunAt loops.linked) (x : FoundLoop) → Contains loops.lines.found x
    → FramesKeepLoop (resolved loops.linked.classes) x r.stage.state.frames (walks_at loops.linked r boot_walks)

-- The lines are the only answer: two texts of loops of the same classes are one.
abbrev pub LoopLinesAreOne : Type 0
LoopLinesAreOne = (cs : List ClassFile) (text other : List ℕ) → AreLoopLines cs text → AreLoopLines cs other → text ≡ other

abbrev pub FurtherLinesAreOne : Type 0
FurtherLinesAreOne = (cs : List ClassFile) (text other : List ℕ) → AreFurtherLines cs text → AreFurtherLines cs other → text ≡ other

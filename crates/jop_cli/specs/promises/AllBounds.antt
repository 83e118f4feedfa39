-- What a call of `bound --all` or of `bound --shapes` shows that answers that its lines are written: each number in a line is kept.
use Rattle.std.specs.Prelude.{◌≡◌, ℕ, List, Some, slice_get, ◌+◌, ◌⊎◌, Ok}
use Rattle.command_line.specs.declared.command.Command.TheVariants.{BoundAll, BoundShapes}
use Rattle.method_bounds.specs.declared.answer.BoundAnswer.{BoundAnswer}
use Rattle.analysis_commands.specs.Bounding.{IsBoundNumber}
use Rattle.std.specs.declared.option.Option.{Option}
use Rattle.ask_commands.specs.Shapes.{shape_with, with_shape, AreShapeLines}
use Rattle.ask_commands.specs.AllBounds.{SaysBounds}
use Rattle.jop_cli.specs.promises.Words.{Grew, resolved, BoundsActivations, Settings, Parts, timing_of, bounds_of, text_of_word, Call, AreFiles, command_of}
use Rattle.jop_cli.specs.promises.Words.{Written, ClassFile, IsResolved, IsSetting, linked_setting, AreSettings}
use Rattle.run_commands.specs.Profiling.{bound_told}
use Rattle.jop_cli.specs.promises.Images.{IsOpened, HasNoLoop}

-- ---- `bound --all`

-- The lines were put of all methods of what is linked, with what is answered of each. A bound in a line is kept: each ended activation of the method takes at
-- most so many cycles, on each machine with these waits and a method cache of these sizes, where its loops keep the bounds; where the line says never, no such
-- activation ends.
pub record AllBoundsKept (c : Call) (settings : Settings) (files : List (List ℕ)) : Type 0 where
  pub linked : Parts
  pub opened : IsOpened (text_of_word files 0) linked
  pub text : List ℕ
  pub says : SaysBounds linked.classes settings (text_of_word files 1) text
  pub put : Grew c.old.out c.new.out text
  pub kept : (m : ℕ) (answer : BoundAnswer) (bound : Option ℕ) → slice_get says.lines.answers m ≡ Some answer → bound_told answer ≡ Some bound
      → BoundsActivations (resolved linked.classes) (timing_of settings) (bounds_of linked.classes says.bounds) m bound

-- or no line was put of a bare image
pub record ShowsAllBounds (c : Call) (settings : Settings) (image : ℕ) : Type 0 where
  pub files : List (List ℕ)
  pub are : AreFiles c.old.files image (image + 2) files
  pub shows : AllBoundsKept c settings files ⊎ HasNoLoop c (text_of_word files 0)

abbrev pub AllBoundsAreKept : Type 0
AllBoundsAreKept =
    (c : Call) (settings : Settings) (image bounds : ℕ) → command_of c.words ≡ Ok (BoundAll settings image bounds) → c.outcome ≡ Written
    → ShowsAllBounds c settings image

-- The lines are the only answer: two texts of the lines of all methods, with the same bounds of loops and the same settings, are one, where a machine runs
-- the program.
abbrev pub AllBoundsAreOne : Type 0
AllBoundsAreOne =
    (cs : List ClassFile) → IsResolved cs → IsSetting (linked_setting cs 0 0) → (settings : Settings) → AreSettings settings → (bounds_text text other : List ℕ)
    → SaysBounds cs settings bounds_text text → SaysBounds cs settings bounds_text other → text ≡ other

-- ---- `bound --shapes`

-- Each bound that is found with these settings of the method of this name is kept.
abbrev pub KeepsNumbers : List ClassFile → Settings → (bounds_text name : List ℕ) → Type 0
KeepsNumbers cs s bounds_text name =
    (bound : Option ℕ) (number : IsBoundNumber cs s bounds_text name bound)
    → BoundsActivations (resolved cs) (timing_of s) (bounds_of cs number.bounds) number.certificate.root bound

-- The lines were put of all shapes of the method cache, each with the bound that is found in its shape; and such a bound is kept on machines with a cache of
-- that shape.
pub record ShowsShapes (c : Call) (settings : Settings) (method image : ℕ) : Type 0 where
  pub files : List (List ℕ)
  pub are : AreFiles c.old.files image (image + 2) files
  pub linked : Parts
  pub opened : IsOpened (text_of_word files 0) linked
  pub text : List ℕ
  pub lines : AreShapeLines linked.classes settings (text_of_word files 1) (text_of_word c.words method) text
  pub put : Grew c.old.out c.new.out text
  pub kept : (block_words blocks : ℕ)
      → KeepsNumbers linked.classes (with_shape settings (shape_with block_words blocks)) (text_of_word files 1) (text_of_word c.words method)

abbrev pub ShapesAreKept : Type 0
ShapesAreKept =
    (c : Call) (settings : Settings) (method image bounds : ℕ) → command_of c.words ≡ Ok (BoundShapes settings method image bounds) → c.outcome ≡ Written
    → ShowsShapes c settings method image

-- The lines are the only answer: two texts of the lines of all shapes, of a method of the same name with the same bounds of loops and the same settings, are
-- one, where a machine runs the program.
abbrev pub ShapesAreOne : Type 0
ShapesAreOne =
    (cs : List ClassFile) → IsResolved cs → IsSetting (linked_setting cs 0 0) → (settings : Settings) → (bounds_text name text other : List ℕ)
    → AreShapeLines cs settings bounds_text name text → AreShapeLines cs settings bounds_text name other → text ≡ other

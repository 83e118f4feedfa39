-- What `headers` promises: its text bounds each loop by the numbers that are written.
use Rattle.std.specs.Prelude.{ℕ, List, ◌≡◌, ◌↔◌, IsSome, ◌+◌, ◌⊎◌, Ok}
use Rattle.command_line.specs.declared.command.Command.TheVariants.{Headers}
use Rattle.method_flow.specs.Regions.{IsWithin}
use Rattle.source_headers.specs.Files.{IsHeaderFile}
use Rattle.source_headers.specs.Laws.{HasLoopNumbers, line_bound, place_bound}
use Rattle.source_headers.specs.Whole.{BoundsWritten}
use Rattle.bound_rules.specs.Bounding.{AreReducible, HaveLines}
use Rattle.bound_causes.specs.Shapes.{IsShape}
use Rattle.bound_causes.specs.declared.shapes.Shape.{Shape}
use Rattle.jop_cli.specs.promises.Words.{ClassFile, IsResolved, LoopBound, IsRead, bounds_of, body_of, resolved, Keeps, Grew, Parts, text_of_word, Call}
use Rattle.jop_cli.specs.promises.Words.{AreFiles, command_of, Written}
use Rattle.jop_cli.specs.promises.Images.{IsOpened, HasNoLoop}
use Rattle.jop_cli.specs.promises.Activations.{BoundInRun, TakesAtMost}

-- ---- `headers`

-- The text that is put of the headers of what is linked is read whole, and what `bound` takes from it bounds each header of a loop by just the number that is
-- written, and nothing else.
abbrev pub HeaderFilesAreTaken : Type 0
HeaderFilesAreTaken =
    (cs : List ClassFile) (lines text : List ℕ) → IsResolved cs → (h : IsHeaderFile cs lines text)
    → (bounds : List LoopBound) × IsRead text bounds × BoundsWritten cs h.notes h.found (bounds_of cs bounds)

-- Where all that may run while a method does has code, and isn't the method that is run first: each loop of these has one entry and, by what is taken, a bound,
-- exactly where no remark on them stands in place of numbers. So `bound` doesn't answer then that a loop lacks one, or has several entries.
abbrev pub HeaderFilesHaveBounds : Type 0
HeaderFilesHaveBounds =
    (cs : List ClassFile) (lines text : List ℕ) → IsResolved cs → (h : IsHeaderFile cs lines text) → (bounds : List LoopBound) → IsRead text bounds → (root : ℕ)
    → ((m : ℕ) → IsWithin (resolved cs) root m → IsSome (body_of (resolved cs) m) × (¬ (m ≡ (resolved cs).boot)))
    → (AreReducible (resolved cs) root × HaveLines (resolved cs) (bounds_of cs bounds) root)
    ↔ ((m : ℕ) → IsWithin (resolved cs) root m → (shape : Shape) → IsShape (resolved cs) m shape → HasLoopNumbers cs h.notes h.found m shape)

-- In the runs of what is linked a bound of a method, by what is taken, asks for what the lines say of sources and of places alone: the loops that are found to
-- count need no premise.
abbrev pub NotedLoopsAreKept : Type 0
NotedLoopsAreKept =
    (x : BoundInRun) (lines text : List ℕ) (h : IsHeaderFile x.linked.classes lines text) (bounds : List LoopBound)
    → IsResolved x.linked.classes → IsRead text bounds → x.bound_of ≡ bounds_of x.linked.classes bounds
    → Keeps (line_bound x.linked.classes h.notes) x.ended → Keeps (place_bound x.linked.classes h.notes) x.ended → TakesAtMost x

-- ---- `headers`

-- The lines were put of the headers of what is linked, with what the second file says of lines of sources, if there is one.
pub record HeadersShown (c : Call) (files : List (List ℕ)) : Type 0 where
  pub linked : Parts
  pub opened : IsOpened (text_of_word files 0) linked
  pub text : List ℕ
  pub lines : IsHeaderFile linked.classes (text_of_word files 1) text
  pub put : Grew c.old.out c.new.out text

-- or no line was put of a bare image
pub record ShowsHeaders (c : Call) (image operands : ℕ) : Type 0 where
  pub files : List (List ℕ)
  pub are : AreFiles c.old.files image (image + operands) files
  pub shows : HeadersShown c files ⊎ HasNoLoop c (text_of_word files 0)

abbrev pub HeadersAreShown : Type 0
HeadersAreShown = (c : Call) (image operands : ℕ) → command_of c.words ≡ Ok (Headers image operands) → c.outcome ≡ Written → ShowsHeaders c image operands

-- The text is the only answer: two texts of headers of the same classes, with the same lines, are one.
abbrev pub HeaderFilesAreOne : Type 0
HeaderFilesAreOne = (cs : List ClassFile) (lines text other : List ℕ) → IsHeaderFile cs lines text → IsHeaderFile cs lines other → text ≡ other

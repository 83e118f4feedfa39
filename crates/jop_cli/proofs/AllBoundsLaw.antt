-- What a call shows that answers that the lines of bounds, of shapes or of a report are written: each number in them is kept.
use Rattle.std.proofs.Common.{ℕ, ◌≤◌, List, sym, subst, inl, inr, ⊎_elim}
use Rattle.std.specs.declared.option.Option.{Option}
use Rattle.class_pool.specs.declared.class.ClassFile.{ClassFile}
use Rattle.outside.specs.Outside.{Grew}
use Rattle.program_tables.specs.Resolved.{resolved}
use Rattle.activations.specs.Warrant.{BoundsActivations}
use Rattle.bound_laws.specs.Soundness.Laws.{CertificatesAreSound}
use Rattle.command_line.specs.declared.command.Settings.{Settings}
use Rattle.command_line.specs.declared.command.Command.TheVariants as commands
use Rattle.command_line.specs.Range.{AreSettings}
use Rattle.analysis_commands.specs.Analysis.{timing_of, bounds_of}
use Rattle.ask_commands.specs.Shapes.{shape_with, with_shape}
use Rattle.endings.specs.declared.outcome.Answer.TheVariants.{Text}
use Rattle.endings.specs.Line.{text_of_word}
use Rattle.ask_commands.specs.Reporting.{reported_bound}
use Rattle.ask_commands.specs.Asking.{AnswersLinked, AnswersBare}
use Rattle.jop_cli.specs.Tasks.{bounding_all, bounding_shapes, reporting}
use Rattle.jop_cli.specs.Calls.{Call}
use Rattle.jop_cli.specs.promises.Images.{HasNoLoop}
use Rattle.jop_cli.specs.promises.AllBounds.{AllBoundsKept, ShowsAllBounds, AllBoundsAreKept, KeepsNumbers, ShowsShapes, ShapesAreKept}
use Rattle.jop_cli.specs.promises.Report.{ShowsReport, ReportsAreKept}
use Rattle.jop_cli.proofs.ProfilingLaw.{certified_of, certified}
use Rattle.jop_cli.proofs.Written.{TextPut, in_range, opened, text_put}
use Rattle.jop_cli.proofs.Wholly.{executed}

-- ---- `bound --all`

module _ (sound : CertificatesAreSound) (c : Call) (s : Settings) (image : ℕ) (are : AreSettings s) where
  all_kept : (p : TextPut c (bounding_all s image)) → AnswersLinked c.words (bounding_all s image).question p.operands (Text p.text) → AllBoundsKept c s p.operands
  all_kept p a = record {
    linked = a.linked;
    opened = opened c (bounding_all s image) p.operands (Text p.text) a;
    text = p.text.items;
    says = a.answers;
    put = p.put;
    kept = λ m answer bound at told. certified sound a.linked.classes s a.answers.bounds m answer bound are told (a.answers.lines.each m answer at);
  }

  no_line : (p : TextPut c (bounding_all s image)) → AnswersBare (bounding_all s image).question p.operands (Text p.text) → HasNoLoop c (text_of_word p.operands 0)
  no_line p b = record { image = b.image; bare = b.bare; put = subst (λ (x : List ℕ). Grew c.old.out c.new.out x) b.answers.says p.put }

  shows_all : TextPut c (bounding_all s image) → ShowsAllBounds c s image
  shows_all p = record { files = p.operands; are = p.are; shows = ⊎_elim (λ a. inl (all_kept p a)) (λ b. inr (no_line p b)) p.answers }

pub all_bounds_are_kept : CertificatesAreSound → AllBoundsAreKept
all_bounds_are_kept sound c s image bounds command is =
    let word = commands.BoundAll s image bounds in
    shows_all sound c s image (in_range c.words word command) (text_put c (bounding_all s image) is (executed c word command))

-- ---- `bound --shapes`

numbers_kept : CertificatesAreSound → (cs : List ClassFile) (s : Settings) → s.read ≤ 63 → s.write ≤ 63 → (bounds_text name : List ℕ) → KeepsNumbers cs s bounds_text name
numbers_kept sound cs s read write bounds_text name bound h =
    let kept = sound (resolved cs) (timing_of s) (bounds_of cs h.bounds) h.certificate read write h.is.meets in
    subst (λ (b : Option ℕ). BoundsActivations (resolved cs) (timing_of s) (bounds_of cs h.bounds) h.certificate.root b) (sym h.bound_is) kept

module _ (sound : CertificatesAreSound) (c : Call) (s : Settings) (method image : ℕ) (are : AreSettings s) where
  shows_shapes : (p : TextPut c (bounding_shapes s method image)) → AnswersLinked c.words (bounding_shapes s method image).question p.operands (Text p.text) → ShowsShapes c s method image
  shows_shapes p a = record {
    files = p.operands;
    are = p.are;
    linked = a.linked;
    opened = opened c (bounding_shapes s method image) p.operands (Text p.text) a;
    text = p.text.items;
    lines = a.answers;
    put = p.put;
    kept = λ block_words blocks. numbers_kept sound a.linked.classes (with_shape s (shape_with block_words blocks)) are.read_most are.write_most (text_of_word p.operands 1) (text_of_word c.words method);
  }

pub shapes_are_kept : CertificatesAreSound → ShapesAreKept
shapes_are_kept sound c s method image bounds command is =
    let word = commands.BoundShapes s method image bounds in
    let p = text_put c (bounding_shapes s method image) is (executed c word command) in
    ⊎_elim (λ a. shows_shapes sound c s method image (in_range c.words word command) p a) (λ b. absurd b.answers) p.answers

-- ---- `report`

module _ (sound : CertificatesAreSound) (c : Call) (s : Settings) (method image : ℕ) (are : AreSettings s) where
  shows_report : (p : TextPut c (reporting s method image)) → AnswersLinked c.words (reporting s method image).question p.operands (Text p.text) → ShowsReport c s method image
  shows_report p a = record {
    files = p.operands;
    are = p.are;
    linked = a.linked;
    opened = opened c (reporting s method image) p.operands (Text p.text) a;
    text = p.text.items;
    says = a.answers;
    put = p.put;
    kept = certified_of sound a.linked.classes s a.answers.bounds a.answers.root (reported_bound a.answers.report) are a.answers.is.certified;
  }

pub reports_are_kept : CertificatesAreSound → ReportsAreKept
reports_are_kept sound c s method image bounds command is =
    let word = commands.Report s method image bounds in
    let p = text_put c (reporting s method image) is (executed c word command) in
    ⊎_elim (λ a. shows_report sound c s method image (in_range c.words word command) p a) (λ b. absurd b.answers) p.answers

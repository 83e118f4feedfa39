-- The code of a bare image that the method cache doesn't hold is answered.
use Rattle.std.proofs.Common.{◌≡◌, ℕ, ◌<◌, ◌≤◌, List, ◌∷◌, Option, Some, ◌∙◌, subst, arith, ◌⊎◌, inl, inr, ⊎_elim}
use Rattle.lists.proofs.Lemmas.{none≢some, some_same}
use Rattle.image_file.specs.Bare.{BareContent, IsBareFile}
use Rattle.command_line.specs.declared.command.Settings.{Settings}
use Rattle.jopizer.specs.Linked.{image_of}
use Rattle.ask_commands.specs.declared.asking.Question.{Question}
use Rattle.ask_commands.specs.declared.priced_files.PricedQuestion.{PricedQuestion}
use Rattle.ask_commands.specs.declared.priced_files.PricedQuestion.TheVariants.{CheckWith, BoundWith}
use Rattle.ask_commands.specs.declared.asking.Question.TheVariants as questions
use Rattle.endings.specs.declared.outcome.Answer.{Answer}
use Rattle.endings.specs.declared.outcome.Answer.TheVariants.{Text, Ends}
use Rattle.endings.specs.declared.outcome.Refusal.TheVariants as refusals
use Rattle.endings.specs.declared.outcome.Ending.{Ending}
use Rattle.endings.specs.declared.outcome.Ending.TheVariants as endings
use Rattle.endings.specs.declared.show.Show.{Show}
use Rattle.jop_cli.specs.declared.task.Task.{Task}
use Rattle.jop_cli.specs.declared.task.Task.TheVariants as tasks
use Rattle.endings.specs.Line.{text_of_word}
use Rattle.endings.specs.World.{IsQuiet}
use Rattle.endings.specs.Fitting.{blocks_of_code}
use Rattle.endings.specs.Fitting.{EndsTooLong}
use Rattle.ask_commands.specs.Checking.{ChecksBare}
use Rattle.ask_commands.specs.Bounding.{BoundsBare}
use Rattle.ask_commands.specs.AllBounds.{SaysNoBound}
use Rattle.endings.specs.AnalysisFaults.{EndsUnread}
use Rattle.ask_commands.specs.Circuits.{IsBareCircuitText, IsUnmade}
use Rattle.ask_commands.specs.Asking.{EndsBy, IsBareAnswer}
use Rattle.ask_commands.specs.Pricing.{BoundsBareWith, ChecksBareWith}
use Rattle.ask_commands.specs.PricedFiles.{IsBarePricedAnswer}
use Rattle.endings.specs.Putting.{PutsAnswer}
use Rattle.run_commands.specs.Profiling.{ProfilesBare}
use Rattle.jop_cli.specs.Calls.{Call}
use Rattle.jop_cli.specs.promises.Images.{OneBareImage}
use Rattle.jop_cli.specs.promises.Refusals.{cache_of, cache_with, cache_needed, LongBareCodesAreRefused}
use Rattle.jop_cli.proofs.Wholly.{wholly, quiet_without}
use Rattle.jop_cli.proofs.RunningLaw.{begins_linked, begins_bare, image_read}
use Rattle.jop_cli.proofs.Told.{EndsSo, answers_so}
use Rattle.jop_cli.proofs.Opened.{AnswersBy, DoesBare, Opened, faulty, on_linked, on_bare, lacking, ends_quiet, opened}
use Rattle.jop_cli.proofs.ImagesLaw.{not_both}

module _ (s : Settings) (image : BareContent) (more : s.blocks < blocks_of_code s image) where
  abbrev Refused : Ending
  Refused = endings.Refused (refusals.MethodTooLong 0 (blocks_of_code s image) s.blocks)

  -- an ending says it, where each other has a code that fits
  too_long : {X : Type 0} (ending : Ending) → EndsTooLong s image ending ⊎ X → ¬ X → ending ≡ Refused
  too_long ending ends fits = ⊎_elim (λ long. long.says) (λ x. absurd (fits x)) ends

  asked_long : (question : Question) (operands : List (List ℕ)) (answer : Answer) → cache_of question ≡ Some s → IsBareAnswer question image operands answer → EndsBy (λ ending. ending ≡ Refused) answer
  asked_long (questions.Check other) operands (Text text) is answers = answers
  asked_long (questions.Check other) operands (Ends ending) is answers =
      let moved = subst (λ (x : Settings). ChecksBare x image (text_of_word operands 1) (text_of_word operands 2) ending) (some_same other s is) answers in
      too_long ending moved (λ m. let fits = m.fits in omega (arith, fits, more))
  asked_long (questions.Bound other method) operands (Text text) is answers = answers
  asked_long (questions.Bound other method) operands (Ends ending) is answers =
      let moved = subst (λ (x : Settings). BoundsBare x image (text_of_word operands 1) ending) (some_same other s is) answers in
      too_long ending moved (λ m. let fits = m.fits in omega (arith, fits, more))
  asked_long (questions.Bounds other) operands (Text text) is answers =
      let moved = subst (λ (x : Settings). SaysNoBound x image (text_of_word operands 1) text.items) (some_same other s is) answers in
      let fits = moved.fits in
      absurd (omega (arith, fits, more))
  asked_long (questions.Bounds other) operands (Ends ending) is answers =
      let moved = subst (λ (x : Settings). EndsTooLong x image ending ⊎ EndsUnread x image (text_of_word operands 1) ending) (some_same other s is) answers in
      too_long ending moved (λ m. let fits = m.fits in omega (arith, fits, more))
  asked_long (questions.Shapes other method) operands answer is answers = absurd (none≢some s is)
  asked_long (questions.Report other method) operands (Text text) is answers = answers
  asked_long (questions.Report other method) operands (Ends ending) is answers =
      let moved = subst (λ (x : Settings). BoundsBare x image (text_of_word operands 1) ending) (some_same other s is) answers in
      too_long ending moved (λ m. let fits = m.fits in omega (arith, fits, more))
  asked_long (questions.Loops further) operands answer is answers = absurd (none≢some s is)
  asked_long questions.Headers operands answer is answers = absurd (none≢some s is)
  asked_long questions.Memory operands answer is answers = absurd (none≢some s is)
  asked_long (questions.Rtl other) operands (Text text) is answers =
      let moved = subst (λ (x : Settings). (blocks_of_code x image ≤ x.blocks) × IsBareCircuitText x image text.items) (some_same other s is) answers in
      let fits = moved.0 in
      absurd (omega (arith, fits, more))
  asked_long (questions.Rtl other) operands (Ends ending) is answers =
      let moved = subst (λ (x : Settings). EndsTooLong x image ending ⊎ ((blocks_of_code x image ≤ x.blocks) × IsUnmade ending)) (some_same other s is) answers in
      too_long ending moved (λ m. let fits = m.0 in omega (arith, fits, more))

  -- and where facts are given, too
  asked_with_long : (question : PricedQuestion) (operands : List (List ℕ)) (facts : List ℕ) (answer : Answer) → ◌≡◌ {A = Option Settings} (Some (cache_with question)) (Some s) → IsBarePricedAnswer question image operands facts answer
      → EndsBy (λ ending. ending ≡ Refused) answer
  asked_with_long (CheckWith other) operands facts (Text text) is answers = answers
  asked_with_long (CheckWith other) operands facts (Ends ending) is answers =
      let moved = subst (λ (x : Settings). ChecksBareWith x image (text_of_word operands 1) facts (text_of_word operands 2) ending) (some_same other s is) answers in
      too_long ending moved (λ m. let fits = m.fits in omega (arith, fits, more))
  asked_with_long (BoundWith other method) operands facts (Text text) is answers = answers
  asked_with_long (BoundWith other method) operands facts (Ends ending) is answers =
      let moved = subst (λ (x : Settings). BoundsBareWith x image (text_of_word operands 1) facts ending) (some_same other s is) answers in
      too_long ending moved (λ m. let fits = m.fits in omega (arith, fits, more))

  module _ (c : Call) (operands : List (List ℕ)) (ending : Ending) where
    abbrev SaysSo : Type 0
    SaysSo = EndsSo c ending Refused

    by_answer : (question : Question) → cache_of question ≡ Some s → (answer : Answer) → IsBareAnswer question image operands answer → PutsAnswer answer c.old.out c.new.out c.old.out_faults c.new.out_faults ending
        → AnswersBy c (IsBareAnswer question image operands) ending → SaysSo
    by_answer question is (Text text) answers put r = absurd (asked_long question operands (Text text) is answers)
    by_answer question is (Ends said) answers put r = record { is = inl (put.0 ∙ asked_long question operands (Ends said) is answers); quiet = ends_quiet c ending said put r.watch r.input }

    by_facts : (question : PricedQuestion) (facts : List ℕ) → ◌≡◌ {A = Option Settings} (Some (cache_with question)) (Some s) → (answer : Answer) → IsBarePricedAnswer question image operands facts answer
        → PutsAnswer answer c.old.out c.new.out c.old.out_faults c.new.out_faults ending → AnswersBy c (IsBarePricedAnswer question image operands facts) ending → SaysSo
    by_facts question facts is (Text text) answers put r = absurd (asked_with_long question operands facts (Text text) is answers)
    by_facts question facts is (Ends said) answers put r = record { is = inl (put.0 ∙ asked_with_long question operands facts (Ends said) is answers); quiet = ends_quiet c ending said put r.watch r.input }

    by_run : (show : Show) → DoesBare c (tasks.Run s show 0) image operands ending → SaysSo
    by_run show did =
        ⊎_elim
        (λ long. record { is = inl long.ending_is; quiet = quiet_without c.old c.new did.1 long.same })
        (λ r. let fits = r.blocks in absurd (omega (arith, fits, more)))
        did.0

    by_profile : (text : List ℕ) → ProfilesBare s image text ending × IsQuiet c.old c.new → SaysSo
    by_profile text did =
        record {
          is = inl (too_long ending did.0 (λ rest. ⊎_elim (λ u. let fits = u.fits in omega (arith, fits, more)) (λ r. let fits = r.ran.blocks in omega (arith, fits, more)) rest));
          quiet = did.1;
        }

    task_long : (task : Task) → cache_needed task ≡ Some s → DoesBare c task image operands ending → SaysSo
    task_long (tasks.Run other show word) is did = by_run show (subst (λ (x : Settings). DoesBare c (tasks.Run x show 0) image operands ending) (some_same other s is) did)
    task_long (tasks.Profile other word) is did =
        by_profile (text_of_word operands 1) (subst (λ (x : Settings). ProfilesBare x image (text_of_word operands 1) ending × IsQuiet c.old c.new) (some_same other s is) did)
    task_long (tasks.Ask asked) is did = by_answer asked.question is did.answer did.is did.puts did
    task_long (tasks.AskWith asked) is did = by_facts asked.question did.facts is did.by.answer did.by.is did.by.puts did.by
    task_long task is did = absurd did

  bare_long : OneBareImage → (c : Call) (task : Task) (bytes : List ℕ) (operands : List (List ℕ)) → IsBareFile bytes image → cache_needed task ≡ Some s → (ending : Ending) → Opened c task bytes operands ending → EndsSo c ending Refused
  bare_long one c task bytes operands is needs ending (faulty (inl fault) quiet) = absurd (not_both bytes fault.0 (begins_bare bytes image is))
  bare_long one c task bytes operands is needs ending (faulty (inr fault) quiet) = record { is = inr (image_read bytes image is ending fault.1); quiet = quiet }
  bare_long one c task bytes operands is needs ending (on_linked l is_linked is_file does) = absurd (not_both bytes (begins_linked bytes (image_of l) is_file) (begins_bare bytes image is))
  bare_long one c task bytes operands is needs ending (on_bare other is_bare does) =
      let same : other ≡ image = one bytes other image is_bare is in
      task_long c operands ending task needs (subst (λ (i : BareContent). DoesBare c task i operands ending) same does)
  bare_long one c task bytes operands is needs ending (lacking is_none quiet) = record { is = inr is_none; quiet = quiet }

pub long_bare_codes_are_refused : OneBareImage → LongBareCodesAreRefused
long_bare_codes_are_refused one c task s bytes image takes is needs more n =
    answers_so c c.answered.ending (endings.Refused (refusals.MethodTooLong 0 (blocks_of_code s image) s.blocks)) (wholly c n)
    (bare_long s image more one c task bytes (bytes ∷ takes.others) is needs c.answered.ending (opened c n task bytes takes))

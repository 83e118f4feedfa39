-- A code that the method cache doesn't hold, and words that the memory doesn't, are answered.
use Rattle.std.proofs.Common.{◌≡◌, ℕ, ◌<◌, ◌≤◌, List, ◌∷◌, length, Option, Some, refl, sym, ◌∙◌, ap, ap₂, subst, arith, ◌⊎◌, inl, inr, ⊎_elim}
use Rattle.std.specs.Prelude.{Vec}
use Rattle.std.specs.declared.alloc.Global.{Global}
use Rattle.std.proofs.lemmas.Bool.{cases_lt}
use Rattle.lists.proofs.Lemmas.{none≢some, some_same, some_is, holds_at}
use Rattle.class_pool.specs.declared.class.ClassFile.{ClassFile}
use Rattle.bytecode_model.specs.Program.{Program, body_of}
use Rattle.program_tables.specs.Resolved.{resolved}
use Rattle.program_resolution.specs.Resolving.{IsProgramOf}
use Rattle.jopizer.specs.Methods.Fitting.{MethodFits, IsFirst, code_blocks}
use Rattle.image_file.specs.Linked as file
use Rattle.image_words.specs.Regions.{image_words_of}
use Rattle.slot_table.specs.declared.slot.Slot.{Slot}
use Rattle.answer_lines.specs.declared.analysis.AnalysisFault.{AnalysisFault}
use Rattle.answer_lines.specs.declared.analysis.AnalysisFault.TheVariants as analysis
use Rattle.analysis_commands.specs.declared.check.CheckRefusal.{CheckRefusal}
use Rattle.analysis_commands.specs.declared.check.CheckRefusal.TheVariants as check
use Rattle.analysis_commands.specs.declared.bound.NotBounded.{NotBounded}
use Rattle.analysis_commands.specs.declared.bound.NotBounded.TheVariants as bound
use Rattle.analysis_commands.specs.declared.priced_check.NotHeld.{NotHeld}
use Rattle.analysis_commands.specs.declared.priced_check.NotHeld.TheVariants as priced_check
use Rattle.analysis_commands.specs.declared.priced_bound.NotPriced.{NotPriced}
use Rattle.analysis_commands.specs.declared.priced_bound.NotPriced.TheVariants as priced_bound
use Rattle.slot_plans.specs.declared.plan.NotPlanned.{NotPlanned}
use Rattle.slot_plans.specs.declared.plan.NotPlanned.TheVariants as plans
use Rattle.analysis_commands.specs.Analysis.{IsAnalysisFault}
use Rattle.analysis_commands.specs.Checking.{IsCheckRefusal}
use Rattle.analysis_commands.specs.Bounding.{IsNotBounded}
use Rattle.analysis_commands.specs.PricedBounds.{IsNotBoundedWith}
use Rattle.analysis_commands.specs.PricedChecks.{IsPricedRefusal, IsNotHeldWith}
use Rattle.slot_plans.specs.Plan.{IsNotPlanned}
use Rattle.run_devices.specs.Lent.{Lent}
use Rattle.command_line.specs.declared.command.Settings.{Settings}
use Rattle.jopizer.specs.Linked.{Parts, IsLinked, image_of}
use Rattle.jopizer.specs.Laws.{OneLinked, LinkedImagesAreRead}
use Rattle.jopizer.proofs.OneLemmas.{OneClass, same_program}
use Rattle.ask_commands.specs.declared.asking.Question.{Question}
use Rattle.ask_commands.specs.declared.priced_files.PricedQuestion.{PricedQuestion}
use Rattle.ask_commands.specs.declared.priced_files.PricedQuestion.TheVariants.{CheckWith, BoundWith}
use Rattle.ask_commands.specs.declared.asking.Question.TheVariants as questions
use Rattle.endings.specs.declared.outcome.Answer.{Answer}
use Rattle.endings.specs.declared.outcome.Answer.TheVariants.{Text, Ends}
use Rattle.endings.specs.declared.outcome.Refusal.TheVariants as refusals
use Rattle.endings.specs.declared.outcome.Ending.{Ending}
use Rattle.endings.specs.declared.outcome.Ending.TheVariants as endings
use Rattle.endings.specs.declared.show.Show.{Show}
use Rattle.jop_cli.specs.declared.task.Task.{Task}
use Rattle.jop_cli.specs.declared.task.Task.TheVariants as tasks
use Rattle.endings.specs.Line.{text_of_word}
use Rattle.endings.specs.World.{IsQuiet}
use Rattle.endings.specs.Fitting.{CodesFit, IsTooLong}
use Rattle.endings.specs.Fitting.{NamesMethod, IsUnheld}
use Rattle.run_commands.specs.LinkedFile.{EndsAs}
use Rattle.endings.specs.AnalysisFaults.{fault_ending}
use Rattle.ask_commands.specs.Checking.{refusal_ending, Checks}
use Rattle.ask_commands.specs.Bounding.{cause_ending, Bounds, EndsNotBounded}
use Rattle.ask_commands.specs.AllBounds.{SaysBounds, EndsUnanalysed}
use Rattle.ask_commands.specs.Reporting.{SaysReport}
use Rattle.ask_commands.specs.Circuits.{IsCircuitText, IsHeldBy, IsUnmade}
use Rattle.ask_commands.specs.Asking.{EndsBy, IsAnswer}
use Rattle.ask_commands.specs.Pricing.{unbounded_ending, unheld_ending, BoundsWith, EndsUnbounded, ChecksWith}
use Rattle.ask_commands.specs.PricedFiles.{IsPricedAnswer}
use Rattle.endings.specs.Putting.{PutsAnswer}
use Rattle.endings.specs.Executive.{executive_class, with_executive, IsLinkedOf, IsLinkedWith}
use Rattle.slot_plans.specs.Planning.{plan_ending}
use Rattle.run_commands.specs.Profiling.{ProfilesLinked, unwatched}
use Rattle.jop_cli.specs.Answer.{lent_of}
use Rattle.jop_cli.specs.Calls.{Call, NothingFailed, LacksMemory}
use Rattle.jop_cli.specs.promises.Answers.{AnswersEnding}
use Rattle.jop_cli.specs.promises.Plan.{IsPlanned, puts, says, lacks, PlansAreAnswered}
use Rattle.jop_cli.specs.promises.Cycle.{IsCycled, lacks, ran, unheld, CyclesAreRuns}
use Rattle.jop_cli.specs.promises.Refusals.{TakesImage, cache_of, cache_with, cache_needed, memory_asked, memory_needed, of_image}
use Rattle.jop_cli.specs.promises.Refusals.{of_plan, of_cycle, AnswersTooLong, LongMethodsAreRefused, SmallMemoriesAreRefused}
use Rattle.jop_cli.proofs.Wholly.{IsWholly, wholly, quiet_of}
use Rattle.jop_cli.proofs.Wholly as whole
use Rattle.jop_cli.proofs.RunningLaw.{begins_linked, begins_bare, is_read, not_more}
use Rattle.jop_cli.proofs.ProfilingLaw as profiles
use Rattle.jop_cli.proofs.Told.{EndsSo, answers_so}
use Rattle.jop_cli.proofs.Opened.{AnswersBy, DoesLinked, Opened, faulty, on_linked, on_bare, lacking, ends_quiet, opened}
use Rattle.jop_cli.proofs.ImagesLaw.{not_both}

-- ---- the first code that doesn't fit

module _ (P : Program) (blocks block_words : ℕ) where
  abbrev First : (method count : ℕ) → Type 0
  First method count = IsFirst P blocks block_words (record { method = method; blocks = count })

  -- none is before another
  not_before : (m n x y : ℕ) → First m x → First n y → m < n → ⊥
  not_before m n x y a b less = not_more (body_of P m) blocks block_words x a.code (b.before m less) a.more

  one_method : (m n x y : ℕ) → First m x → First n y → m ≡ n
  one_method m n x y a b =
      ⊎_elim
      (λ less. absurd (not_before m n x y a b less))
      (λ at_least. ⊎_elim (λ more. absurd (not_before n m y x b a more)) (λ at_most. omega (arith, at_least, at_most)) (cases_lt n m))
      (cases_lt m n)

  one_count : (m n x y : ℕ) → m ≡ n → First m x → First n y → x ≡ y
  one_count m n x y same a b =
      let there = some_is (body_of P m) (λ body. x ≡ code_blocks block_words body) a.code in
      let here = subst (λ (k : ℕ). First k y) (sym same) b in
      let other : y ≡ code_blocks block_words there.0 = holds_at (body_of P m) there.0 (λ body. y ≡ code_blocks block_words body) there.1 here.code in
      there.2 ∙ sym other

-- ---- what is answered

-- the ending says that the code of this method doesn't fit; or there was no memory
data LongEnding (cs : List ClassFile) (s : Settings) (method blocks : ℕ) (ending : Ending) : Type 0 where
  named : (name : Vec ℕ Global) → NamesMethod cs method name.items → ending ≡ endings.TooLong method name blocks s.blocks → LongEnding cs s method blocks ending
  unnamed : ending ≡ endings.NoMemory → LongEnding cs s method blocks ending

-- and that the words pass the memory
abbrev SmallEnding : Settings → Parts → Ending → Type 0
SmallEnding s l ending = (ending ≡ endings.Refused (refusals.MemoryTooSmall (length l.laid.words) s.memory)) ⊎ (ending ≡ endings.NoMemory)

abbrev LongAnswer : Call → Settings → Parts → (method blocks : ℕ) → Type 0
LongAnswer c s l method blocks = AnswersTooLong c s l method blocks ⊎ LacksMemory c

answers_long : (c : Call) (s : Settings) (l : Parts) (method blocks : ℕ) (ending : Ending) → AnswersEnding c ending → LongEnding l.classes s method blocks ending → LongAnswer c s l method blocks
answers_long c s l method blocks ending said (named name names is) = inl (record { name = name; names = names; answers = subst (AnswersEnding c) is said })
answers_long c s l method blocks ending said (unnamed is) =
    let none : AnswersEnding c endings.NoMemory = subst (AnswersEnding c) is said in
    inr (record { outcome = none.outcome; quiet = none.quiet })

answers_ending : (c : Call) (ending : Ending) → IsWholly c ending → IsQuiet c.old c.new → AnswersEnding c ending
answers_ending c ending w quiet = record { outcome = w.outcome; line = w.line; quiet = quiet }

-- ---- where the code of a method doesn't fit

module _ (l : Parts) (s : Settings) (method blocks : ℕ) (long : IsTooLong s l method blocks) where
  abbrev Long : Ending → Type 0
  Long ending = LongEnding l.classes s method blocks ending

  not_fit : CodesFit s l → ⊥
  not_fit codes = not_more (body_of (resolved l.classes) method) s.blocks s.block_words blocks long.code (codes method) long.more

  long_named : (ending : Ending) (m b limit : ℕ) (name : Vec ℕ Global) → IsTooLong s l m b → limit ≡ s.blocks → NamesMethod l.classes m name.items → ending ≡ endings.TooLong m name b limit → Long ending
  long_named ending m b limit name first is_limit names ends =
      let same : m ≡ method = one_method (resolved l.classes) s.blocks s.block_words m method b blocks first long in
      let count : b ≡ blocks = one_count (resolved l.classes) s.blocks s.block_words m method b blocks same first long in
      let of_method : endings.TooLong m name b limit ≡ endings.TooLong method name b limit = ap (λ (x : ℕ). endings.TooLong x name b limit) same in
      let of_count : endings.TooLong method name b limit ≡ endings.TooLong method name blocks s.blocks = ap₂ (λ (x y : ℕ). endings.TooLong method name x y) count is_limit in
      named name (subst (λ (x : ℕ). NamesMethod l.classes x name.items) same names) (ends ∙ (of_method ∙ of_count))

  unheld_long : (ending : Ending) → IsUnheld s l ending → Long ending
  unheld_long (endings.TooLong m name b limit) is = long_named (endings.TooLong m name b limit) m b limit name is.0 is.1 is.2 refl
  unheld_long (endings.Refused (refusals.MemoryTooSmall words given)) is = absurd (not_fit is.0.codes)
  unheld_long endings.NoMemory is = unnamed refl
  unheld_long ending is = absurd is

  fault_long : (text : List ℕ) (ending : Ending) (fault : AnalysisFault) → IsAnalysisFault l.classes s text fault → ending ≡ fault_ending s fault → Long ending
  fault_long text ending (analysis.MethodTooLong m name b) is ends = long_named ending m b s.blocks name is.0 refl is.1 ends
  fault_long text ending (analysis.BadBounds line) is ends = absurd (not_fit is.0)
  fault_long text ending (analysis.TwiceBound line) is ends = absurd (not_fit is.0)
  fault_long text ending analysis.NoMemory is ends = unnamed ends

  refusal_long : (text cert : List ℕ) (ending : Ending) (refusal : CheckRefusal) → IsCheckRefusal l.classes s text cert refusal → ending ≡ refusal_ending s refusal → Long ending
  refusal_long text cert ending (check.NoAnalysis fault) is ends = fault_long text ending fault is ends
  refusal_long text cert ending (check.BadCert line) is ends = absurd (not_fit is.0)
  refusal_long text cert ending (check.Fails fault name) is ends = absurd (not_fit is.0.reads.codes_fit)
  refusal_long text cert ending check.NoMemory is ends = unnamed ends

  cause_long : (text name : List ℕ) (ending : Ending) (cause : NotBounded) → IsNotBounded l.classes s text name cause → ending ≡ cause_ending s cause → Long ending
  cause_long text name ending (bound.NoAnalysis fault) is ends = fault_long text ending fault is ends
  cause_long text name ending (bound.Forbidden cause subject) is ends = absurd (not_fit is.codes_fit)
  cause_long text name ending bound.NoMemory is ends = unnamed ends

  plan_long : (text : List ℕ) (slots : List Slot) (ending : Ending) (cause : NotPlanned) → IsNotPlanned l.classes s text slots cause → ending ≡ plan_ending s cause → Long ending
  plan_long text slots ending (plans.NoAnalysis fault) is ends = fault_long text ending fault is ends
  plan_long text slots ending (plans.Refused cause subject) is ends = absurd (not_fit is.codes_fit)
  plan_long text slots ending plans.NoMemory is ends = unnamed ends

  checks_long : (text cert : List ℕ) (ending : Ending) → Checks l.classes s text cert ending → Long ending
  checks_long text cert ending checks =
      ⊎_elim (λ held. absurd (not_fit held.shows.meets.reads.codes_fit)) (λ r. refusal_long text cert ending r.refusal r.cause r.says) checks

  -- nor is it where facts are given, too
  priced_long : (text facts cert : List ℕ) (ending : Ending) (refusal : CheckRefusal) → IsPricedRefusal l.classes s text facts cert refusal → ending ≡ refusal_ending s refusal → Long ending
  priced_long text facts cert ending (check.NoAnalysis fault) is ends = fault_long text ending fault is ends
  priced_long text facts cert ending (check.BadCert line) is ends = absurd (not_fit is.reads.codes_fit)
  priced_long text facts cert ending (check.Fails fault name) is ends = absurd (not_fit is.0.reads.codes_fit)
  priced_long text facts cert ending check.NoMemory is ends = unnamed ends

  unheld_with_long : (text facts cert : List ℕ) (ending : Ending) (refusal : NotHeld) → IsNotHeldWith l.classes s text facts cert refusal → ending ≡ unheld_ending s refusal → Long ending
  unheld_with_long text facts cert ending (priced_check.NoFacts refusal) is ends = absurd (not_fit is.0.0)
  unheld_with_long text facts cert ending (priced_check.NoPrice m u name) is ends = absurd (not_fit is.0.reads.codes_fit)
  unheld_with_long text facts cert ending (priced_check.Refused refusal) is ends =
      ⊎_elim (λ plain. refusal_long text cert ending refusal plain.refused ends) (λ priced. priced_long text facts cert ending refusal priced ends) is

  checks_with_long : (text facts cert : List ℕ) (ending : Ending) → ChecksWith l.classes s text facts cert ending → Long ending
  checks_with_long text facts cert ending checks =
      ⊎_elim
      (λ held.
      let codes : CodesFit s l = ⊎_elim (λ plain. plain.1.reads.codes_fit) (λ priced. priced.reads.codes_fit) held.shows.meets in
      absurd (not_fit codes))
      (λ r. unheld_with_long text facts cert ending r.refusal r.cause r.says)
      checks

  unbounded_with_long : (text facts name : List ℕ) (ending : Ending) (cause : NotPriced) → IsNotBoundedWith l.classes s text facts name cause → ending ≡ unbounded_ending s cause → Long ending
  unbounded_with_long text facts name ending (priced_bound.NoFacts refusal) is ends = absurd (not_fit is.0.0)
  unbounded_with_long text facts name ending (priced_bound.NotBound (bound.NoAnalysis fault)) is ends = fault_long text ending fault is ends
  unbounded_with_long text facts name ending (priced_bound.NotBound (bound.Forbidden cause subject)) is ends = absurd (not_fit is.1.codes_fit)
  unbounded_with_long text facts name ending (priced_bound.NotBound bound.NoMemory) is ends = unnamed ends

  asked_with_long : (words : List (List ℕ)) (question : PricedQuestion) (operands : List (List ℕ)) (facts : List ℕ) (answer : Answer) → ◌≡◌ {A = Option Settings} (Some (cache_with question)) (Some s) → IsPricedAnswer words question l operands facts answer
      → EndsBy Long answer
  asked_with_long words (CheckWith other) operands facts (Text text) is answers = answers
  asked_with_long words (CheckWith other) operands facts (Ends ending) is answers =
      checks_with_long (text_of_word operands 1) facts (text_of_word operands 2) ending
      (subst (λ (x : Settings). ChecksWith l.classes x (text_of_word operands 1) facts (text_of_word operands 2) ending) (some_same other s is) answers)
  asked_with_long words (BoundWith other m) operands facts (Text text) is answers =
      let moved = subst (λ (x : Settings). BoundsWith l.classes x (text_of_word operands 1) facts (text_of_word words m) text.items) (some_same other s is) answers in
      absurd (not_fit moved.is.codes_fit)
  asked_with_long words (BoundWith other m) operands facts (Ends ending) is answers =
      let moved = subst (λ (x : Settings). EndsUnbounded l.classes x (text_of_word operands 1) facts (text_of_word words m) ending) (some_same other s is) answers in
      unbounded_with_long (text_of_word operands 1) facts (text_of_word words m) ending moved.cause moved.is moved.says

  -- each question that asks for the method cache
  asked_long : (words : List (List ℕ)) (question : Question) (operands : List (List ℕ)) (answer : Answer) → cache_of question ≡ Some s → IsAnswer words question l operands answer → EndsBy Long answer
  asked_long words (questions.Check other) operands (Text text) is answers = answers
  asked_long words (questions.Check other) operands (Ends ending) is answers =
      checks_long (text_of_word operands 1) (text_of_word operands 2) ending
      (subst (λ (x : Settings). Checks l.classes x (text_of_word operands 1) (text_of_word operands 2) ending) (some_same other s is) answers)
  asked_long words (questions.Bound other m) operands (Text text) is answers =
      let moved = subst (λ (x : Settings). Bounds l.classes x (text_of_word operands 1) (text_of_word words m) text.items) (some_same other s is) answers in
      absurd (not_fit moved.is.codes_fit)
  asked_long words (questions.Bound other m) operands (Ends ending) is answers =
      let moved = subst (λ (x : Settings). EndsNotBounded l.classes x (text_of_word operands 1) (text_of_word words m) ending) (some_same other s is) answers in
      cause_long (text_of_word operands 1) (text_of_word words m) ending moved.cause moved.is moved.says
  asked_long words (questions.Bounds other) operands (Text text) is answers =
      let moved = subst (λ (x : Settings). SaysBounds l.classes x (text_of_word operands 1) text.items) (some_same other s is) answers in
      absurd (not_fit moved.codes_fit)
  asked_long words (questions.Bounds other) operands (Ends ending) is answers =
      let moved = subst (λ (x : Settings). EndsUnanalysed l.classes x (text_of_word operands 1) ending) (some_same other s is) answers in
      fault_long (text_of_word operands 1) ending moved.fault moved.is moved.says
  asked_long words (questions.Shapes other m) operands answer is answers = absurd (none≢some s is)
  asked_long words (questions.Report other m) operands (Text text) is answers =
      let moved = subst (λ (x : Settings). SaysReport l.classes x (text_of_word operands 1) (text_of_word words m) text.items) (some_same other s is) answers in
      absurd (not_fit moved.codes_fit)
  asked_long words (questions.Report other m) operands (Ends ending) is answers =
      let moved = subst (λ (x : Settings). EndsNotBounded l.classes x (text_of_word operands 1) (text_of_word words m) ending) (some_same other s is) answers in
      cause_long (text_of_word operands 1) (text_of_word words m) ending moved.cause moved.is moved.says
  asked_long words (questions.Loops further) operands answer is answers = absurd (none≢some s is)
  asked_long words questions.Headers operands answer is answers = absurd (none≢some s is)
  asked_long words questions.Memory operands answer is answers = absurd (none≢some s is)
  asked_long words (questions.Rtl other) operands (Text text) is answers =
      let moved = subst (λ (x : Settings). IsHeldBy x l × IsCircuitText x l.laid.words text.items) (some_same other s is) answers in
      absurd (not_fit moved.0.codes)
  asked_long words (questions.Rtl other) operands (Ends ending) is answers =
      let moved = subst (λ (x : Settings). IsUnheld x l ending ⊎ (IsHeldBy x l × IsUnmade ending)) (some_same other s is) answers in
      ⊎_elim (λ un. unheld_long ending un) (λ m. absurd (not_fit m.0.codes)) moved

-- ---- where a machine holds what is linked, or not

abbrev Holds : Settings → Parts → Type 0
Holds s l = CodesFit s l × (length l.laid.words ≤ s.memory)

-- nothing was done where it doesn't
run_holds : (s : Settings) (show : Show) (l : Parts) (old new : Lent) (ending : Ending) → EndsAs s show l old new ending → (IsUnheld s l ending × (new ≡ old)) ⊎ Holds s l
run_holds s show l old new (endings.TooLong m name b limit) h = inl h
run_holds s show l old new (endings.Refused (refusals.MemoryTooSmall words given)) h = inl h
run_holds s show l old new (endings.Ended counts) h = inr (h.codes, h.memory)
run_holds s show l old new (endings.Uncaught class name counts) h = inr (h.0.codes, h.0.memory)
run_holds s show l old new (endings.Spent counts) h = inr (h.codes, h.memory)
run_holds s show l old new endings.InputFault h = inr (h.ran.codes, h.ran.memory)
run_holds s show l old new endings.WriteFault h = inr (h.ran.codes, h.ran.memory)
run_holds s show l old new endings.NoMemory h = inl (tt, h)
run_holds s show l old new ending h = absurd h

profile_holds : (s : Settings) (l : Parts) (text : List ℕ) (old new : Lent) (ending : Ending) → ProfilesLinked s l text old new ending → (IsUnheld s l ending × (new ≡ old)) ⊎ Holds s l
profile_holds s l text old new ending h =
    ⊎_elim
    (λ none. ⊎_elim
    (λ un. inl (un, none.1))
    (λ rest. ⊎_elim (λ u. inr (u.codes, u.memory)) (λ is. inl (subst (IsUnheld s l) (sym is) tt, none.1)) rest)
    none.0)
    (λ r. inr (r.codes, r.memory))
    h

module _ (l : Parts) (s : Settings) (codes : CodesFit s l) (more : s.memory < length l.laid.words) where
  not_held : Holds s l → ⊥
  not_held holds = let most = holds.1 in omega (arith, more, most)

  unheld_small : (ending : Ending) → IsUnheld s l ending → SmallEnding s l ending
  unheld_small (endings.TooLong m name b limit) is = absurd (not_more (body_of (resolved l.classes) m) s.blocks s.block_words b is.0.code (codes m) is.0.more)
  unheld_small (endings.Refused (refusals.MemoryTooSmall words given)) is = inl (ap₂ (λ (x y : ℕ). endings.Refused (refusals.MemoryTooSmall x y)) is.0.count is.1)
  unheld_small endings.NoMemory is = inr refl
  unheld_small ending is = absurd is

  -- the question that asks for the memory
  asked_small : (words : List (List ℕ)) (question : Question) (operands : List (List ℕ)) (answer : Answer) → memory_asked question ≡ Some s → IsAnswer words question l operands answer → EndsBy (SmallEnding s l) answer
  asked_small words (questions.Rtl other) operands (Text text) is answers =
      let moved = subst (λ (x : Settings). IsHeldBy x l × IsCircuitText x l.laid.words text.items) (some_same other s is) answers in
      absurd (not_held (moved.0.codes, moved.0.memory))
  asked_small words (questions.Rtl other) operands (Ends ending) is answers =
      let moved = subst (λ (x : Settings). IsUnheld x l ending ⊎ (IsHeldBy x l × IsUnmade ending)) (some_same other s is) answers in
      ⊎_elim (λ un. unheld_small ending un) (λ m. absurd (not_held (m.0.codes, m.0.memory))) moved
  asked_small words question operands answer is answers = absurd (none≢some s is)

-- ---- what a command does with what is linked

module _ (c : Call) (l : Parts) (s : Settings) (ending : Ending) where
  -- a machine holds it, or not, and then nothing was done
  abbrev Tried : Type 0
  Tried = (IsUnheld s l ending × IsQuiet c.old c.new) ⊎ Holds s l

  by_run : (show : Show) → EndsAs s show l (lent_of c.old) (lent_of c.new) ending → Tried
  by_run show did = ⊎_elim (λ h. inl (h.0, quiet_of c.old c.new h.1)) (λ holds. inr holds) (run_holds s show l (lent_of c.old) (lent_of c.new) ending did)

  by_profile : (text : List ℕ) → c.new.watch ≡ c.old.watch → ProfilesLinked s l text (unwatched c.old) (unwatched c.new) ending → Tried
  by_profile text watch did =
      ⊎_elim (λ h. inl (h.0, profiles.quiet_of c.old c.new h.1 watch)) (λ holds. inr holds) (profile_holds s l text (unwatched c.old) (unwatched c.new) ending did)

module _ (c : Call) (l : Parts) (s : Settings) (method blocks : ℕ) (long : IsTooLong s l method blocks) (operands : List (List ℕ)) (ending : Ending) where
  abbrev LongQuiet : Type 0
  LongQuiet = LongEnding l.classes s method blocks ending × IsQuiet c.old c.new

  tried_long : (IsUnheld s l ending × IsQuiet c.old c.new) ⊎ Holds s l → LongQuiet
  tried_long tried = ⊎_elim (λ h. (unheld_long l s method blocks long ending h.0, h.1)) (λ holds. absurd (not_fit l s method blocks long holds.0)) tried

  by_answer : (question : Question) → cache_of question ≡ Some s → (answer : Answer) → IsAnswer c.words question l operands answer → PutsAnswer answer c.old.out c.new.out c.old.out_faults c.new.out_faults ending
      → AnswersBy c (IsAnswer c.words question l operands) ending → LongQuiet
  by_answer question is (Text text) answers put r = absurd (asked_long l s method blocks long c.words question operands (Text text) is answers)
  by_answer question is (Ends said) answers put r =
      let of_said = asked_long l s method blocks long c.words question operands (Ends said) is answers in
      (subst (LongEnding l.classes s method blocks) (sym put.0) of_said, ends_quiet c ending said put r.watch r.input)

  by_facts : (question : PricedQuestion) (facts : List ℕ) → ◌≡◌ {A = Option Settings} (Some (cache_with question)) (Some s) → (answer : Answer) → IsPricedAnswer c.words question l operands facts answer
      → PutsAnswer answer c.old.out c.new.out c.old.out_faults c.new.out_faults ending → AnswersBy c (IsPricedAnswer c.words question l operands facts) ending → LongQuiet
  by_facts question facts is (Text text) answers put r = absurd (asked_with_long l s method blocks long c.words question operands facts (Text text) is answers)
  by_facts question facts is (Ends said) answers put r =
      let of_said = asked_with_long l s method blocks long c.words question operands facts (Ends said) is answers in
      (subst (LongEnding l.classes s method blocks) (sym put.0) of_said, ends_quiet c ending said put r.watch r.input)

  task_long : (task : Task) → cache_needed task ≡ Some s → DoesLinked c task l operands ending → LongQuiet
  task_long (tasks.Run other show word) is did =
      tried_long (by_run c l s ending show (subst (λ (x : Settings). EndsAs x show l (lent_of c.old) (lent_of c.new) ending) (some_same other s is) did))
  task_long (tasks.Profile other word) is did =
      tried_long
      (by_profile c l s ending (text_of_word operands 1) did.1
      (subst (λ (x : Settings). ProfilesLinked x l (text_of_word operands 1) (unwatched c.old) (unwatched c.new) ending) (some_same other s is) did.0))
  task_long (tasks.Ask asked) is did = by_answer asked.question is did.answer did.is did.puts did
  task_long (tasks.AskWith asked) is did = by_facts asked.question did.facts is did.by.answer did.by.is did.by.puts did.by
  task_long task is did = absurd did

module _ (c : Call) (l : Parts) (s : Settings) (codes : CodesFit s l) (more : s.memory < length l.laid.words) (operands : List (List ℕ)) (ending : Ending) where
  abbrev SmallQuiet : Type 0
  SmallQuiet = EndsSo c ending (endings.Refused (refusals.MemoryTooSmall (length l.laid.words) s.memory))

  tried_small : (IsUnheld s l ending × IsQuiet c.old c.new) ⊎ Holds s l → SmallQuiet
  tried_small tried = ⊎_elim (λ h. record { is = unheld_small l s codes more ending h.0; quiet = h.1 }) (λ holds. absurd (not_held l s codes more holds)) tried

  small_by_answer : (question : Question) → memory_asked question ≡ Some s → (answer : Answer) → IsAnswer c.words question l operands answer → PutsAnswer answer c.old.out c.new.out c.old.out_faults c.new.out_faults ending
      → AnswersBy c (IsAnswer c.words question l operands) ending → SmallQuiet
  small_by_answer question is (Text text) answers put r = absurd (asked_small l s codes more c.words question operands (Text text) is answers)
  small_by_answer question is (Ends said) answers put r =
      let of_said = asked_small l s codes more c.words question operands (Ends said) is answers in
      record { is = subst (SmallEnding s l) (sym put.0) of_said; quiet = ends_quiet c ending said put r.watch r.input }

  task_small : (task : Task) → memory_needed task ≡ Some s → DoesLinked c task l operands ending → SmallQuiet
  task_small (tasks.Run other show word) is did =
      tried_small (by_run c l s ending show (subst (λ (x : Settings). EndsAs x show l (lent_of c.old) (lent_of c.new) ending) (some_same other s is) did))
  task_small (tasks.Profile other word) is did =
      tried_small
      (by_profile c l s ending (text_of_word operands 1) did.1
      (subst (λ (x : Settings). ProfilesLinked x l (text_of_word operands 1) (unwatched c.old) (unwatched c.new) ending) (some_same other s is) did.0))
  task_small (tasks.Ask asked) is did = small_by_answer asked.question is did.answer did.is did.puts did
  task_small (tasks.AskWith asked) is did = absurd (none≢some s is)
  task_small task is did = absurd did

-- ---- an image

module _ (one : OneLinked) (images : LinkedImagesAreRead) (c : Call) (n : NothingFailed c) (task : Task) (l : Parts) (bytes : List ℕ) (takes : TakesImage c task bytes) (is_linked : IsLinked l) (is_file : file.IsLinkedFile bytes (image_of l)) where
  abbrev operands : List (List ℕ)
  operands = bytes ∷ takes.others

  -- there was no memory to open it, or the command does something with it
  abbrev Done : Ending → Type 0
  Done ending = ((ending ≡ endings.NoMemory) × IsQuiet c.old c.new) ⊎ DoesLinked c task l operands ending

  done_by : (ending : Ending) → Opened c task bytes operands ending → Done ending
  done_by ending (faulty (inl fault) quiet) = inl (is_read images bytes l is_linked is_file ending fault.1, quiet)
  done_by ending (faulty (inr fault) quiet) = absurd (not_both bytes (begins_linked bytes (image_of l) is_file) fault.0)
  done_by ending (on_linked other other_linked other_file does) =
      let same : other ≡ l = one bytes other l other_linked is_linked other_file is_file in
      inr (subst (λ (p : Parts). DoesLinked c task p operands ending) same does)
  done_by ending (on_bare b is_bare does) = absurd (not_both bytes (begins_linked bytes (image_of l) is_file) (begins_bare bytes b is_bare))
  done_by ending (lacking is quiet) = inl (is, quiet)

  done : Done c.answered.ending
  done = done_by c.answered.ending (opened c n task bytes takes)

  image_long : (s : Settings) (method blocks : ℕ) → cache_needed task ≡ Some s → IsTooLong s l method blocks → LongAnswer c s l method blocks
  image_long s method blocks needs long =
      ⊎_elim
      (λ none. inr (whole.lacks c c.answered.ending (wholly c n) none.0 none.1))
      (λ did.
      let ends = task_long c l s method blocks long operands c.answered.ending task needs did in
      answers_long c s l method blocks c.answered.ending (answers_ending c c.answered.ending (wholly c n) ends.1) ends.0)
      done

  image_small : (s : Settings) → memory_needed task ≡ Some s → CodesFit s l → s.memory < length l.laid.words
      → AnswersEnding c (endings.Refused (refusals.MemoryTooSmall (length l.laid.words) s.memory)) ⊎ LacksMemory c
  image_small s needs codes more =
      ⊎_elim
      (λ none. inr (whole.lacks c c.answered.ending (wholly c n) none.0 none.1))
      (λ did. answers_so c c.answered.ending (endings.Refused (refusals.MemoryTooSmall (length l.laid.words) s.memory)) (wholly c n) (task_small c l s codes more operands c.answered.ending task needs did))
      done

-- ---- class files with an executive

program_of : (files : List (List ℕ)) (l : Parts) → IsLinkedOf files l → IsProgramOf files executive_class l.classes
program_of files l is =
    subst (λ (m : List ℕ). IsProgramOf files m l.classes) is.its_main (subst (λ (fs : List (List ℕ)). IsProgramOf fs l.main l.classes) is.its_files is.is_linked.linked.program)

same_classes : OneClass → (files : List (List ℕ)) (a b : Parts) → IsLinkedOf files a → IsLinkedOf files b → a.classes ≡ b.classes
same_classes law files a b of_a of_b = same_program law files executive_class a.classes b.classes (program_of files a of_a) (program_of files b of_b)

module _ (one_class : OneClass) (c : Call) (s : Settings) (rounds : ℕ) (slots : List Slot) (files : List (List ℕ)) (l : Parts) (is : IsLinkedWith slots rounds files l) where
  module _ (other : Parts) (of_other : IsLinkedWith slots rounds files other) where
    same : other.classes ≡ l.classes
    same = same_classes one_class (with_executive slots rounds files) other l of_other is

    fits_here : CodesFit s other → CodesFit s l
    fits_here codes = subst (λ (cs : List ClassFile). (m : ℕ) → MethodFits (resolved cs) s.blocks s.block_words m) same codes

    fits_there : CodesFit s l → CodesFit s other
    fits_there codes = subst (λ (cs : List ClassFile). (m : ℕ) → MethodFits (resolved cs) s.blocks s.block_words m) (sym same) codes

    long_there : (method blocks : ℕ) → IsTooLong s l method blocks → IsTooLong s other method blocks
    long_there method blocks long = subst (λ (cs : List ClassFile). IsFirst (resolved cs) s.blocks s.block_words (record { method = method; blocks = blocks })) (sym same) long

    as_many_words : length other.laid.words ≡ length l.laid.words
    as_many_words = ap length (of_other.is_linked.laid.words ∙ (ap image_words_of same ∙ sym is.is_linked.laid.words))

    answers_there : (method blocks : ℕ) (ending : Ending) → AnswersEnding c ending → LongEnding other.classes s method blocks ending → LongAnswer c s l method blocks
    answers_there method blocks ending said long = answers_long c s l method blocks ending said (subst (λ (cs : List ClassFile). LongEnding cs s method blocks ending) same long)

  module _ (method blocks : ℕ) (long : IsTooLong s l method blocks) where
    planned_long : (text : List ℕ) → IsPlanned c s rounds slots text files → LongAnswer c s l method blocks
    planned_long text (puts other lines of_other made outcome put) = absurd (not_fit other s method blocks (long_there other of_other method blocks long) made.codes_fit)
    planned_long text (says other ending of_other answers outcome line quiet) =
        answers_there other of_other method blocks ending (record { outcome = outcome; line = line; quiet = quiet })
        (plan_long other s method blocks (long_there other of_other method blocks long) text slots ending answers.cause answers.is answers.says)
    planned_long text (lacks none) = inr none

    cycled_long : IsCycled c s rounds slots files → LongAnswer c s l method blocks
    cycled_long (ran other ending of_other r ends outcome line) = absurd (not_fit other s method blocks (long_there other of_other method blocks long) r.codes)
    cycled_long (unheld other ending of_other un outcome line quiet) =
        answers_there other of_other method blocks ending (record { outcome = outcome; line = line; quiet = quiet })
        (unheld_long other s method blocks (long_there other of_other method blocks long) ending un)
    cycled_long (lacks none) = inr none

  module _ (codes : CodesFit s l) (more : s.memory < length l.laid.words) where
    abbrev Small : Type 0
    Small = AnswersEnding c (endings.Refused (refusals.MemoryTooSmall (length l.laid.words) s.memory)) ⊎ LacksMemory c

    small_said : (other : Parts) (ending : Ending) → length other.laid.words ≡ length l.laid.words → AnswersEnding c ending → SmallEnding s other ending → Small
    small_said other ending words said small =
        ⊎_elim
        (λ is. inl (subst (AnswersEnding c) (is ∙ ap (λ (x : ℕ). endings.Refused (refusals.MemoryTooSmall x s.memory)) words) said))
        (λ is. let none : AnswersEnding c endings.NoMemory = subst (AnswersEnding c) is said in inr (record { outcome = none.outcome; quiet = none.quiet }))
        small

    cycled_small : IsCycled c s rounds slots files → Small
    cycled_small (ran other ending of_other r ends outcome line) =
        let words = as_many_words other of_other in
        let most = r.memory in
        absurd (omega (arith, words, most, more))
    cycled_small (unheld other ending of_other un outcome line quiet) =
        let words = as_many_words other of_other in
        let past : s.memory < length other.laid.words = omega (arith, words, more) in
        small_said other ending words (record { outcome = outcome; line = line; quiet = quiet }) (unheld_small other s (fits_there other of_other codes) past ending un)
    cycled_small (lacks none) = inr none

-- ---- all

-- the settings of a task by which it is told
settings_are : (needed : Task → Option Settings) (task other : Task) (s : Settings) → task ≡ other → needed task ≡ Some s → needed other ≡ Some s
settings_are needed task other s is needs = ap needed (sym is) ∙ needs

pub long_methods_are_refused : OneLinked → LinkedImagesAreRead → OneClass → PlansAreAnswered → CyclesAreRuns → LongMethodsAreRefused
long_methods_are_refused one images one_class planned cycled c task s l method blocks (of_image bytes takes is_linked is_file) needs long n =
    image_long one images c n task l bytes takes is_linked is_file s method blocks needs long
long_methods_are_refused one images one_class planned cycled c task s l method blocks (of_plan other rounds table bounds first slots text files is said readied of) needs long n =
    let same : other ≡ s = some_same other s (settings_are cache_needed task (tasks.Plan other rounds table) s is needs) in
    planned_long one_class c s rounds slots files l of method blocks long text
    (subst (λ (x : Settings). IsPlanned c x rounds slots text files) same (planned c other rounds table bounds first slots text files said readied n))
long_methods_are_refused one images one_class planned cycled c task s l method blocks (of_cycle other rounds table first slots files is said readied of) needs long n =
    let same : other ≡ s = some_same other s (settings_are cache_needed task (tasks.Cycle other rounds table) s is needs) in
    cycled_long one_class c s rounds slots files l of method blocks long
    (subst (λ (x : Settings). IsCycled c x rounds slots files) same (cycled c other rounds table first slots files said readied n))

pub small_memories_are_refused : OneLinked → LinkedImagesAreRead → OneClass → CyclesAreRuns → SmallMemoriesAreRefused
small_memories_are_refused one images one_class cycled c task s l (of_image bytes takes is_linked is_file) needs codes more n =
    image_small one images c n task l bytes takes is_linked is_file s needs codes more
small_memories_are_refused one images one_class cycled c task s l (of_plan other rounds table bounds first slots text files is said readied of) needs codes more n =
    absurd (none≢some s (settings_are memory_needed task (tasks.Plan other rounds table) s is needs))
small_memories_are_refused one images one_class cycled c task s l (of_cycle other rounds table first slots files is said readied of) needs codes more n =
    let same : other ≡ s = some_same other s (settings_are memory_needed task (tasks.Cycle other rounds table) s is needs) in
    cycled_small one_class c s rounds slots files l of codes more
    (subst (λ (x : Settings). IsCycled c x rounds slots files) same (cycled c other rounds table first slots files said readied n))

-- What comes of the bytes of the image that a command takes.
use Rattle.std.proofs.Common.{◌≡◌, ℕ, ◌+◌, true, false, List, ◌∷◌, length, refl, sym, ◌∙◌, ap, subst, arith, inl, inr, ◌⊎◌, ⊎_elim}
use Rattle.std.specs.Prelude.{sum_by}
use Rattle.image_file.specs.Bare.{BareContent, IsBareFile}
use Rattle.image_file.specs.Linked as file
use Rattle.jopizer.specs.Linked.{Parts, IsLinked, image_of}
use Rattle.command_line.specs.declared.command.Settings.{Settings}
use Rattle.ask_commands.specs.declared.asking.Asked.{Asked}
use Rattle.ask_commands.specs.declared.priced_files.AskedWith.{AskedWith}
use Rattle.endings.specs.declared.outcome.Answer.{Answer}
use Rattle.endings.specs.declared.outcome.Answer.TheVariants.{Text, Ends}
use Rattle.endings.specs.declared.outcome.Refusal.TheVariants as refusals
use Rattle.endings.specs.declared.outcome.Ending.{Ending}
use Rattle.endings.specs.declared.outcome.Ending.TheVariants as endings
use Rattle.endings.specs.declared.show.Show.{Show}
use Rattle.jop_cli.specs.declared.task.Task.{Task}
use Rattle.jop_cli.specs.declared.task.Task.TheVariants as tasks
use Rattle.endings.specs.Line.{text_of_word}
use Rattle.endings.specs.Phase.{is_linked}
use Rattle.endings.specs.World.{IsQuiet, IsUntaken, Reads}
use Rattle.endings.specs.Opening.{ImageFault}
use Rattle.run_commands.specs.BareFile.{IsCodeTooLong, RanImageWith, RunsBareBytes}
use Rattle.endings.specs.Opening.{BytesFault}
use Rattle.run_commands.specs.LinkedFile.{EndsAs, RunsLinkedBytes}
use Rattle.endings.specs.Opening.{OpenFault}
use Rattle.ask_commands.specs.Asking.{IsAnswer, IsBareAnswer, Answers, AsksFiles}
use Rattle.ask_commands.specs.PricedFiles.{IsPricedAnswer, IsBarePricedAnswer, AnswersWith, IsFactsEnding, AsksFilesWith}
use Rattle.endings.specs.Putting.{PutsAnswer}
use Rattle.run_commands.specs.Profiling.{ProfilesLinked, ProfilesBare, ProfilesImage, ProfilesFiles, unwatched}
use Rattle.jop_cli.specs.Tasks.{task_of}
use Rattle.jop_cli.specs.Answer.{DoesTask, RunsFile, lent_of, lent_without_input}
use Rattle.jop_cli.specs.Calls.{Call, NothingFailed}
use Rattle.jop_cli.specs.promises.Refusals.{TakesImage}
use Rattle.jop_cli.proofs.Wholly.{executed, quiet_of, quiet_without, whole_told, length_told}
use Rattle.jop_cli.proofs.ProfilingLaw as profiles
use Rattle.jop_cli.proofs.Told.{same_told, told_are_read, first_told, told_is_read}

-- this answers a question
pub record AnswersBy (c : Call) (answers : Answer → Type 0) (ending : Ending) : Type 0 where
  pub answer : Answer
  pub is : answers answer
  pub puts : PutsAnswer answer c.old.out c.new.out c.old.out_faults c.new.out_faults ending
  pub watch : c.new.watch ≡ c.old.watch
  pub input : IsUntaken c.old c.new

-- this does by some facts
pub record AnswersByFacts (c : Call) (answers : (facts : List ℕ) → Answer → Type 0) (ending : Ending) : Type 0 where
  pub facts : List ℕ
  pub by : AnswersBy c (answers facts) ending

-- what a command does with what is linked whose image it takes
abbrev pub DoesLinked : Call → Task → Parts → (operands : List (List ℕ)) → Ending → Type 0
DoesLinked c (tasks.Run s show image) l operands ending = EndsAs s show l (lent_of c.old) (lent_of c.new) ending
DoesLinked c (tasks.Profile s image) l operands ending =
    ProfilesLinked s l (text_of_word operands 1) (unwatched c.old) (unwatched c.new) ending × (c.new.watch ≡ c.old.watch)
DoesLinked c (tasks.Ask asked) l operands ending = AnswersBy c (IsAnswer c.words asked.question l operands) ending
DoesLinked c (tasks.AskWith asked) l operands ending = AnswersByFacts c (IsPricedAnswer c.words asked.question l operands) ending
DoesLinked c task l operands ending = ⊥

-- and with a bare image
abbrev pub DoesBare : Call → Task → BareContent → (operands : List (List ℕ)) → Ending → Type 0
DoesBare c (tasks.Run s show image) bare operands ending =
    (IsCodeTooLong s bare (lent_without_input c.old) (lent_without_input c.new) ending ⊎ RanImageWith s show bare (lent_without_input c.old) (lent_without_input c.new) ending)
    × IsUntaken c.old c.new
DoesBare c (tasks.Profile s image) bare operands ending = ProfilesBare s bare (text_of_word operands 1) ending × IsQuiet c.old c.new
DoesBare c (tasks.Ask asked) bare operands ending = AnswersBy c (IsBareAnswer asked.question bare operands) ending
DoesBare c (tasks.AskWith asked) bare operands ending = AnswersByFacts c (IsBarePricedAnswer asked.question bare operands) ending
DoesBare c task bare operands ending = ⊥

pub data Opened (c : Call) (task : Task) (bytes : List ℕ) (operands : List (List ℕ)) (ending : Ending) : Type 0 where
  faulty : OpenFault bytes ending → IsQuiet c.old c.new → Opened c task bytes operands ending
  on_linked : (l : Parts) → IsLinked l → file.IsLinkedFile bytes (image_of l) → DoesLinked c task l operands ending → Opened c task bytes operands ending
  on_bare : (image : BareContent) → IsBareFile bytes image → DoesBare c task image operands ending → Opened c task bytes operands ending
  lacking : ending ≡ endings.NoMemory → IsQuiet c.old c.new → Opened c task bytes operands ending

-- nothing was put where an ending answers
pub ends_quiet : (c : Call) (ending says : Ending) → PutsAnswer (Ends says) c.old.out c.new.out c.old.out_faults c.new.out_faults ending → c.new.watch ≡ c.old.watch → IsUntaken c.old c.new → IsQuiet c.old c.new
ends_quiet c ending says put watch input = record { input = input; out = put.1; out_faults = put.2; watch = watch }

-- ---- `run` and `trace`

module _ (c : Call) (n : NothingFailed c) (s : Settings) (show : Show) (word : ℕ) (bytes : List ℕ) (takes : TakesImage c (tasks.Run s show word) bytes) where
  abbrev Ran : Ending → Type 0
  Ran ending = Opened c (tasks.Run s show word) bytes (bytes ∷ takes.others) ending

  same_file : (read : List ℕ) → Reads word read c.old c.new → read ≡ bytes
  same_file read reads = whole_told (c.old.files word) bytes read (first_told c word bytes takes.others takes.tells) reads.whole

  linked_ran : (ending : Ending) → is_linked bytes ≡ true → RunsLinkedBytes s show bytes (lent_of c.old) (lent_of c.new) ending → Ran ending
  linked_ran ending begins runs =
      ⊎_elim (λ fault. faulty (inl (begins, fault.0)) (quiet_of c.old c.new fault.1)) (λ r. on_linked r.linked r.is_linked r.is_file r.ends_as) runs

  bare_ran : (ending : Ending) → is_linked bytes ≡ false → IsUntaken c.old c.new → RunsBareBytes s show bytes (lent_without_input c.old) (lent_without_input c.new) ending → Ran ending
  bare_ran ending begins untaken runs =
      ⊎_elim (λ fault. faulty (inr (begins, fault.0)) (quiet_without c.old c.new untaken fault.1)) (λ r. on_bare r.image r.bare (r.ran, untaken)) runs

  ran : (ending : Ending) → RunsFile s show word c.old c.new ending → Ran ending
  ran ending runs =
      ⊎_elim
      (λ fault. lacking (told_is_read c word bytes takes.others takes.tells n ending fault.0) fault.1)
      (λ read. ⊎_elim
      (λ r.
      let same : r.bytes ≡ bytes = same_file r.bytes r.reads in
      bare_ran ending (ap is_linked (sym same) ∙ r.bare) r.input (subst (λ (b : List ℕ). RunsBareBytes s show b (lent_without_input c.old) (lent_without_input c.new) ending) same r.runs))
      (λ r.
      let same : r.bytes ≡ bytes = same_file r.bytes r.reads.reads in
      linked_ran ending (ap is_linked (sym same) ∙ r.reads.linked) (subst (λ (b : List ℕ). RunsLinkedBytes s show b (lent_of c.old) (lent_of c.new) ending) same r.runs))
      read)
      runs

-- ---- `profile`

module _ (c : Call) (n : NothingFailed c) (s : Settings) (word : ℕ) (bytes : List ℕ) (takes : TakesImage c (tasks.Profile s word) bytes) where
  abbrev Profiled : Ending → Type 0
  Profiled ending = Opened c (tasks.Profile s word) bytes (bytes ∷ takes.others) ending

  image_profiled : (ending : Ending) → c.new.watch ≡ c.old.watch → ProfilesImage s (bytes ∷ takes.others) (unwatched c.old) (unwatched c.new) ending → Profiled ending
  image_profiled ending watch profiled =
      ⊎_elim
      (λ of_linked. ⊎_elim
      (λ fault. faulty (inl (of_linked.0, fault.0)) (profiles.quiet_of c.old c.new fault.1 watch))
      (λ p. on_linked p.linked p.is_linked p.is_file (p.profiles, watch))
      of_linked.1)
      (λ of_bare.
      let quiet = profiles.quiet_of c.old c.new of_bare.1 watch in
      ⊎_elim (λ fault. faulty (inr (of_bare.0, fault)) quiet) (λ p. on_bare p.image p.is_bare (p.profiles, quiet)) of_bare.2)
      profiled

  profiled : (ending : Ending) → ProfilesFiles s word c.old c.new ending → Profiled ending
  profiled ending did =
      ⊎_elim
      (λ fault. lacking (told_are_read c word (bytes ∷ takes.others) takes.tells n (word + 2) takes.many ending fault.0) fault.1)
      (λ r.
      let same : r.operands ≡ bytes ∷ takes.others = same_told c word (bytes ∷ takes.others) takes.tells (word + 2) r.operands takes.many r.are in
      image_profiled ending r.watch (subst (λ (x : List (List ℕ)). ProfilesImage s x (unwatched c.old) (unwatched c.new) ending) same r.profiles))
      did

-- ---- the questions

module _ (c : Call) (n : NothingFailed c) (asked : Asked) (bytes : List ℕ) (takes : TakesImage c (tasks.Ask asked) bytes) where
  abbrev Answered : Ending → Type 0
  Answered ending = Opened c (tasks.Ask asked) bytes (bytes ∷ takes.others) ending

  answered_by : (ending : Ending) (answer : Answer) → Answers c.words asked.question (bytes ∷ takes.others) answer → PutsAnswer answer c.old.out c.new.out c.old.out_faults c.new.out_faults ending → c.new.watch ≡ c.old.watch → IsUntaken c.old c.new
      → Answered ending
  answered_by ending (Text text) answers put watch input =
      ⊎_elim
      (λ of_linked. ⊎_elim (λ fault. absurd fault) (λ r. on_linked r.linked r.is_linked r.is_file (record { answer = Text text; is = r.answers; puts = put; watch = watch; input = input })) of_linked.1)
      (λ of_bare. ⊎_elim (λ fault. absurd fault) (λ r. on_bare r.image r.bare (record { answer = Text text; is = r.answers; puts = put; watch = watch; input = input })) of_bare.1)
      answers
  answered_by ending (Ends says) answers put watch input =
      let quiet = ends_quiet c ending says put watch input in
      ⊎_elim
      (λ of_linked. ⊎_elim
      (λ fault. faulty (inl (of_linked.0, subst (BytesFault bytes) (sym put.0) fault)) quiet)
      (λ r. on_linked r.linked r.is_linked r.is_file (record { answer = Ends says; is = r.answers; puts = put; watch = watch; input = input }))
      of_linked.1)
      (λ of_bare. ⊎_elim
      (λ fault. faulty (inr (of_bare.0, subst (ImageFault bytes) (sym put.0) fault)) quiet)
      (λ r. on_bare r.image r.bare (record { answer = Ends says; is = r.answers; puts = put; watch = watch; input = input }))
      of_bare.1)
      answers

  answered : (ending : Ending) → AsksFiles c.words asked c.old c.new ending → Answered ending
  answered ending did =
      ⊎_elim
      (λ fault. lacking (told_are_read c asked.image (bytes ∷ takes.others) takes.tells n (asked.image + asked.operands) takes.many ending fault.0) fault.1)
      (λ r.
      let same : r.operands ≡ bytes ∷ takes.others = same_told c asked.image (bytes ∷ takes.others) takes.tells (asked.image + asked.operands) r.operands takes.many r.are in
      answered_by ending r.answer (subst (λ (x : List (List ℕ)). Answers c.words asked.question x r.answer) same r.answers) r.puts r.watch r.input)
      did

-- ---- by facts

module _ (c : Call) (n : NothingFailed c) (asked : AskedWith) (bytes : List ℕ) (takes : TakesImage c (tasks.AskWith asked) bytes) where
  abbrev Priced : Ending → Type 0
  Priced ending = Opened c (tasks.AskWith asked) bytes (bytes ∷ takes.others) ending

  -- their file is read, unless there is no memory
  facts_read : (operands : List (List ℕ)) → operands ≡ bytes ∷ takes.others → (ending : Ending)
      → IsFactsEnding asked.facts (sum_by length operands) (c.old.files asked.facts) (c.old.file_faults asked.facts) (c.new.file_faults asked.facts) ending → ending ≡ endings.NoMemory
  facts_read operands same (endings.Refused (refusals.TooBig operand sum)) h =
      let sums : sum_by length operands ≡ sum_by length (bytes ∷ takes.others) = ap (sum_by length) same in
      let long : h.1 ≡ length takes.facts.0 = length_told (c.old.files asked.facts) takes.facts.0 h.1 takes.facts.1 h.2 in
      let few = takes.facts.2 in
      let sum_is = h.3 in
      let past = h.4 in
      absurd (omega (arith, sums, long, few, sum_is, past))
  facts_read operands same endings.ReadFault h = absurd (n.files asked.facts takes.facts.0 takes.facts.1 h)
  facts_read operands same endings.NoMemory h = refl
  facts_read operands same ending h = absurd h

  priced_by : (ending : Ending) (facts : List ℕ) (answer : Answer) → AnswersWith c.words asked.question (bytes ∷ takes.others) facts answer → PutsAnswer answer c.old.out c.new.out c.old.out_faults c.new.out_faults ending → c.new.watch ≡ c.old.watch
      → IsUntaken c.old c.new → Priced ending
  priced_by ending facts (Text text) answers put watch input =
      ⊎_elim
      (λ of_linked. ⊎_elim
      (λ fault. absurd fault)
      (λ r. on_linked r.linked r.is_linked r.is_file (record { facts = facts; by = record { answer = Text text; is = r.answers; puts = put; watch = watch; input = input } }))
      of_linked.1)
      (λ of_bare. ⊎_elim (λ fault. absurd fault) (λ r. on_bare r.image r.bare (record { facts = facts; by = record { answer = Text text; is = r.answers; puts = put; watch = watch; input = input } })) of_bare.1)
      answers
  priced_by ending facts (Ends says) answers put watch input =
      let quiet = ends_quiet c ending says put watch input in
      ⊎_elim
      (λ of_linked. ⊎_elim
      (λ fault. faulty (inl (of_linked.0, subst (BytesFault bytes) (sym put.0) fault)) quiet)
      (λ r. on_linked r.linked r.is_linked r.is_file (record { facts = facts; by = record { answer = Ends says; is = r.answers; puts = put; watch = watch; input = input } }))
      of_linked.1)
      (λ of_bare. ⊎_elim
      (λ fault. faulty (inr (of_bare.0, subst (ImageFault bytes) (sym put.0) fault)) quiet)
      (λ r. on_bare r.image r.bare (record { facts = facts; by = record { answer = Ends says; is = r.answers; puts = put; watch = watch; input = input } }))
      of_bare.1)
      answers

  priced : (ending : Ending) → AsksFilesWith c.words asked c.old c.new ending → Priced ending
  priced ending did =
      ⊎_elim
      (λ fault. lacking (told_are_read c asked.image (bytes ∷ takes.others) takes.tells n (asked.image + asked.operands) takes.many ending fault.0) fault.1)
      (λ rest. ⊎_elim
      (λ f.
      let same : f.0.operands ≡ bytes ∷ takes.others = same_told c asked.image (bytes ∷ takes.others) takes.tells (asked.image + asked.operands) f.0.operands takes.many f.0.reads.are in
      lacking (facts_read f.0.operands same ending f.0.fault) f.1)
      (λ r.
      let same : r.operands ≡ bytes ∷ takes.others = same_told c asked.image (bytes ∷ takes.others) takes.tells (asked.image + asked.operands) r.operands takes.many r.reads.are in
      priced_by ending r.facts r.answer (subst (λ (x : List (List ℕ)). AnswersWith c.words asked.question x r.facts r.answer) same r.answers) r.puts r.watch r.input)
      rest)
      did

-- ---- all

opened_by : (c : Call) (n : NothingFailed c) (task : Task) (bytes : List ℕ) (takes : TakesImage c task bytes) (ending : Ending) → DoesTask c.words task c.old c.new ending → Opened c task bytes (bytes ∷ takes.others) ending
opened_by c n (tasks.Run s show word) bytes takes ending did = ran c n s show word bytes takes ending did
opened_by c n (tasks.Profile s word) bytes takes ending did = profiled c n s word bytes takes ending did
opened_by c n (tasks.Ask asked) bytes takes ending did = answered c n asked bytes takes ending did
opened_by c n (tasks.AskWith asked) bytes takes ending did = priced c n asked bytes takes ending did
opened_by c n task bytes takes ending did = absurd takes.opens

pub opened : (c : Call) (n : NothingFailed c) (task : Task) (bytes : List ℕ) (takes : TakesImage c task bytes) → Opened c task bytes (bytes ∷ takes.others) c.answered.ending
opened c n task bytes takes =
    let did : DoesTask c.words (task_of takes.command) c.old c.new c.answered.ending = executed c takes.command takes.said in
    opened_by c n task bytes takes c.answered.ending (subst (λ (t : Task). DoesTask c.words t c.old c.new c.answered.ending) takes.does did)

-- The run of an image, as an answer of the call.
use Rattle.std.proofs.Common.{◌≡◌, ℕ, Bool, true, false, List, Ok, refl, sym, ◌∙◌, ap, subst, inl, inr, ⊎_elim}
use Rattle.std.specs.declared.option.Option.{Option}
use Rattle.std.specs.declared.result.Result.{Result}
use Rattle.endings.specs.declared.show.Show.{Show}
use Rattle.endings.specs.declared.show.Show.TheVariants as shows
use Rattle.endings.specs.Show.{IsTrace}
use Rattle.command_line.specs.declared.command.Settings.{Settings}
use Rattle.command_line.specs.declared.command.Command.{Command}
use Rattle.command_line.specs.declared.command.Command.TheVariants as commands
use Rattle.command_line.specs.Command.{command_of}
use Rattle.endings.specs.declared.outcome.Ending.{Ending}
use Rattle.endings.specs.declared.outcome.Ending.TheVariants as endings
use Rattle.endings.specs.Leaving.{FailsRisen}
use Rattle.ask_commands.specs.Assembling.{Assembles}
use Rattle.endings.specs.Linking.{LinksFiles}
use Rattle.ask_commands.specs.declared.asking.Question.{Question}
use Rattle.ask_commands.specs.declared.asking.Asked.{Asked}
use Rattle.endings.specs.declared.outcome.Answer.{Answer}
use Rattle.endings.specs.declared.outcome.Answer.TheVariants.{Text, Ends}
use Rattle.endings.specs.Line.{text_of_word}
use Rattle.ask_commands.specs.declared.priced_files.PricedQuestion.{PricedQuestion}
use Rattle.ask_commands.specs.declared.priced_files.AskedWith.{AskedWith}
use Rattle.ask_commands.specs.PricedFiles.{AnswersWith, AsksFilesWith}
use Rattle.ask_commands.specs.Asking.{Answers, AsksFiles}
use Rattle.endings.specs.Putting.{PutsAnswer}
use Rattle.endings.specs.Phase.{is_linked}
use Rattle.run_commands.specs.BareFile.{RunsBareBytes}
use Rattle.run_commands.specs.LinkedFile.{RunsLinkedBytes}
use Rattle.endings.specs.World.{World, IsUntaken, Reads}
use Rattle.jop_cli.specs.declared.task.Task.{Task}
use Rattle.jop_cli.specs.declared.task.Task.TheVariants as tasks
use Rattle.jop_cli.specs.Tasks.{task_of}
use Rattle.jop_cli.specs.Answer.{DoesTask, Does, RunsFile, ShowsOutput, TakesFor, TakesInput, RunsProgram, lent_of, lent_without_input}
use Rattle.jop_cli.proofs.Refusing.{IsRefusing, Says, refuses, holds, bytes_refuse, image_refuses, linked_says, bare_refuses, linked_says_with, bare_refuses_with}

-- the file was read, and its bytes were run as those of a bare image or of a linked one
pub runs_read : (settings : Settings) (show : Show) (word : ℕ) (whole bytes : List ℕ) (old new : World) (ending : Ending) → bytes ≡ whole → Reads word whole old new
    → (is_linked bytes ≡ false → RunsBareBytes settings show bytes (lent_without_input old) (lent_without_input new) ending) → (is_linked bytes ≡ true → RunsLinkedBytes settings show bytes (lent_of old) (lent_of new) ending)
    → (is_linked bytes ≡ false → IsUntaken old new) → RunsFile settings show word old new ending
runs_read settings show word whole bytes old new ending same all bare linked untaken =
    let reads = subst (λ (b : List ℕ). Reads word b old new) (sym same) all in
    by_form reads (is_linked bytes) refl
  where
    by_form : Reads word bytes old new → (b : Bool) → is_linked bytes ≡ b → RunsFile settings show word old new ending
    by_form reads true e = inr (inr (record { bytes = bytes; reads = record { reads = reads; linked = e }; runs = linked e }))
    by_form reads false e = inr (inl (record { bytes = bytes; reads = reads; bare = e; runs = bare e; input = untaken e }))

pub does_by : (words : List (List ℕ)) (r q : Result Command ℕ) (old new : World) (ending : Ending) → q ≡ r → Does words q old new ending → Does words r old new ending
does_by words r q old new ending is does = let P : Result Command ℕ → Type 0 = λ x. Does words x old new ending in subst P is does

-- ---- commands and what they do

pub does_task : (words : List (List ℕ)) (r : Result Command ℕ) (command : Command) (task : Task) (old new : World) (ending : Ending) → ◌≡◌ {A = Result Command ℕ} (Ok command) r → task ≡ task_of command
    → DoesTask words task old new ending → Does words r old new ending
does_task words r command task old new ending is same does = does_by words r (Ok command) old new ending is (subst (λ (t : Task). DoesTask words t old new ending) same does)

-- a command that shows a program's output is `run`
run_shows : (command : Command) → ShowsOutput (task_of command) → (settings : Settings) × (image : ℕ) × (command ≡ commands.Run settings image)
run_shows (commands.Run settings image) shows = (settings, image, refl)
run_shows (commands.Trace settings micro image) shows = absurd shows
run_shows (commands.Link main first) shows = absurd shows
run_shows (commands.Bound settings method image bounds) shows = absurd shows
run_shows (commands.Profile settings image bounds) shows = absurd shows
run_shows (commands.BoundAll settings image bounds) shows = absurd shows
run_shows (commands.BoundShapes settings method image bounds) shows = absurd shows
run_shows (commands.Report settings method image bounds) shows = absurd shows
run_shows (commands.Plan settings rounds table bounds first) shows = absurd shows
run_shows (commands.Cycle settings rounds table first) shows = absurd shows
run_shows (commands.Check settings image bounds certificate) shows = absurd shows
run_shows (commands.BoundWith settings method facts image bounds) shows = absurd shows
run_shows (commands.CheckWith settings facts image bounds certificate) shows = absurd shows
run_shows (commands.Loops further image) shows = absurd shows
run_shows (commands.Headers image operands) shows = absurd shows
run_shows (commands.Memory image bounds sizes) shows = absurd shows
run_shows (commands.Rtl settings image) shows = absurd shows
run_shows (commands.Asm text) shows = absurd shows
run_shows (commands.Work n) shows = absurd shows

pub shows_output : (words : List (List ℕ)) (command : Command) (task : Task) → command_of words ≡ Ok command → task ≡ task_of command → ShowsOutput task → RunsProgram words
shows_output words command task is same shows =
    let r = run_shows command (subst ShowsOutput same shows) in
    (r.0, r.1, is ∙ ap (λ (x : Command). Ok x) r.2)

-- one that doesn't shows a trace
pub traces_else : (settings : Settings) (show : Show) (image : ℕ) → (ShowsOutput (tasks.Run settings show image) → ⊥) → IsTrace show
traces_else settings shows.Output image none = none tt
traces_else settings (shows.Trace cycles) image none = tt

-- the words say a command that takes from the input
pub takes_input : (words : List (List ℕ)) (command : Command) (task : Task) (old new : World) → command_of words ≡ Ok command → task ≡ task_of command
    → TakesFor task old new → TakesInput words old new
takes_input words command task old new is same takes = (command, is, subst (λ (t : Task). TakesFor t old new) same takes)

-- ---- only a run takes input

pub risen_but : (e : Ending) (before now : ℕ) → (e ≡ endings.InputFault → ⊥) → FailsRisen e before now
risen_but (endings.Ended counts) before now other = tt
risen_but endings.Written before now other = tt
risen_but (endings.Linked sizes) before now other = tt
risen_but (endings.Holds held) before now other = tt
risen_but (endings.Uncaught class name counts) before now other = tt
risen_but (endings.Refused refusal) before now other = tt
risen_but (endings.TooLong method name blocks limit) before now other = tt
risen_but (endings.NotLinked refusal name) before now other = tt
risen_but (endings.NotHeld fault name) before now other = tt
risen_but (endings.NotPriced method node name) before now other = tt
risen_but (endings.NotAnswered cause subject) before now other = tt
risen_but (endings.Spent counts) before now other = tt
risen_but (endings.CycleEnded slots) before now other = tt
risen_but (endings.CycleUncaught class name slots) before now other = tt
risen_but (endings.CycleSpent slots) before now other = tt
risen_but endings.ReadFault before now other = tt
risen_but endings.InputFault before now other = absurd (other refl)
risen_but endings.WriteFault before now other = tt
risen_but endings.NoMemory before now other = tt

pub assembles_risen : (text : ℕ) (old new : World) (e : Ending) (before now : ℕ) → Assembles text old new e → FailsRisen e before now
assembles_risen text old new e before now does = risen_but e before now (λ is. subst (Assembles text old new) is does)

no_input : (main : List ℕ) (first : ℕ) (old new : World) → LinksFiles main first old new endings.InputFault → ⊥
no_input main first old new links = ⊎_elim (λ f. f.0) (λ r. r.put.0) links

pub links_risen : (main : List ℕ) (first : ℕ) (old new : World) (e : Ending) (before now : ℕ) → LinksFiles main first old new e → FailsRisen e before now
links_risen main first old new e before now links = risen_but e before now (λ is. no_input main first old new (subst (LinksFiles main first old new) is links))

says_no_input : (e : Ending) → Says e → e ≡ endings.InputFault → ⊥
says_no_input e (refuses r) is = subst IsRefusing is r
says_no_input e (holds held says) is = absurd (cc)

pub answers_say : (words : List (List ℕ)) (question : Question) (operands : List (List ℕ)) (e : Ending) → Answers words question operands (Ends e) → Says e
answers_say words question operands e answers =
    ⊎_elim
    (λ linked. ⊎_elim (λ fault. refuses (bytes_refuse (text_of_word operands 0) e fault)) (λ r. linked_says words question r.linked operands e r.answers) linked.1)
    (λ bare. ⊎_elim (λ fault. refuses (image_refuses (text_of_word operands 0) e fault)) (λ b. refuses (bare_refuses question b.image operands e b.answers)) bare.1)
    answers

puts_no_input : (words : List (List ℕ)) (question : Question) (operands : List (List ℕ)) (answer : Answer) (old new : Option (List ℕ)) (before now : ℕ) → Answers words question operands answer → PutsAnswer answer old new before now endings.InputFault → ⊥
puts_no_input words question operands (Text text) old new before now answers puts =
    ⊎_elim (λ whole. let says = whole.0 in absurd (cc)) (λ part. let says = part.0 in absurd (cc)) puts
puts_no_input words question operands (Ends says) old new before now answers puts = says_no_input says (answers_say words question operands says answers) (sym puts.0)

asks_no_input : (words : List (List ℕ)) (asked : Asked) (old new : World) → AsksFiles words asked old new endings.InputFault → ⊥
asks_no_input words asked old new asks =
    ⊎_elim (λ fault. fault.0) (λ r. puts_no_input words asked.question r.operands r.answer old.out new.out old.out_faults new.out_faults r.answers r.puts) asks

pub asks_risen : (words : List (List ℕ)) (asked : Asked) (old new : World) (e : Ending) (before now : ℕ) → AsksFiles words asked old new e → FailsRisen e before now
asks_risen words asked old new e before now asks = risen_but e before now (λ is. asks_no_input words asked old new (subst (AsksFiles words asked old new) is asks))

-- ---- nor does what is asked by facts

answers_with_say : (words : List (List ℕ)) (question : PricedQuestion) (operands : List (List ℕ)) (facts : List ℕ) (e : Ending) → AnswersWith words question operands facts (Ends e) → Says e
answers_with_say words question operands facts e answers =
    ⊎_elim
    (λ linked. ⊎_elim (λ fault. refuses (bytes_refuse (text_of_word operands 0) e fault)) (λ r. linked_says_with words question r.linked operands facts e r.answers) linked.1)
    (λ bare. ⊎_elim (λ fault. refuses (image_refuses (text_of_word operands 0) e fault)) (λ b. refuses (bare_refuses_with question b.image operands facts e b.answers)) bare.1)
    answers

puts_with_no_input : (words : List (List ℕ)) (question : PricedQuestion) (operands : List (List ℕ)) (facts : List ℕ) (answer : Answer) (old new : Option (List ℕ)) (before now : ℕ) → AnswersWith words question operands facts answer
    → PutsAnswer answer old new before now endings.InputFault → ⊥
puts_with_no_input words question operands facts (Text text) old new before now answers puts =
    ⊎_elim (λ whole. let says = whole.0 in absurd (cc)) (λ part. let says = part.0 in absurd (cc)) puts
puts_with_no_input words question operands facts (Ends says) old new before now answers puts =
    says_no_input says (answers_with_say words question operands facts says answers) (sym puts.0)

asks_with_no_input : (words : List (List ℕ)) (asked : AskedWith) (old new : World) → AsksFilesWith words asked old new endings.InputFault → ⊥
asks_with_no_input words asked old new asks =
    ⊎_elim
    (λ fault. fault.0)
    (λ rest. ⊎_elim
    (λ f. f.0.fault)
    (λ r. puts_with_no_input words asked.question r.operands r.facts r.answer old.out new.out old.out_faults new.out_faults r.answers r.puts)
    rest)
    asks

pub asks_with_risen : (words : List (List ℕ)) (asked : AskedWith) (old new : World) (e : Ending) (before now : ℕ) → AsksFilesWith words asked old new e → FailsRisen e before now
asks_with_risen words asked old new e before now asks = risen_but e before now (λ is. asks_with_no_input words asked old new (subst (AsksFilesWith words asked old new) is asks))

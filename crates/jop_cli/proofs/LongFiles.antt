-- Words that give no command, and files that are too long together, are answered.
use Rattle.std.proofs.Common.{ℕ, ◌+◌, ◌<◌, Err, refl, subst, arith, inl, inr, ⊎_elim}
use Rattle.command_line.specs.Command.{command_of}
use Rattle.endings.specs.declared.outcome.Refusal.{Refusal}
use Rattle.endings.specs.declared.outcome.Refusal.TheVariants as refusals
use Rattle.endings.specs.declared.outcome.Ending.{Ending}
use Rattle.endings.specs.declared.outcome.Ending.TheVariants as endings
use Rattle.jop_cli.specs.declared.task.Task.{Task}
use Rattle.jop_cli.specs.declared.task.Task.TheVariants as tasks
use Rattle.endings.specs.World.{IsQuiet}
use Rattle.jop_cli.specs.Tasks.{task_of}
use Rattle.ask_commands.specs.Assembling.{NotAssembled, Assembles}
use Rattle.jop_cli.specs.Answer.{Does, DoesTask}
use Rattle.jop_cli.specs.Calls.{Call, NothingFailed}
use Rattle.jop_cli.specs.promises.Answers.{AnswersEnding}
use Rattle.jop_cli.specs.promises.Refusals.{first_operand, end_of_operands, PassesMost, NoCommandIsRefused, LongFilesAreRefused}
use Rattle.jop_cli.proofs.Executing.{does_by}
use Rattle.jop_cli.proofs.Wholly.{IsWholly, wholly, wholly_by, executed}
use Rattle.jop_cli.proofs.Told.{EndsSo, answers_so, operands_end, not_all, not_read, too_big_alone, not_failed_alone, file_ends}

-- ---- words

pub no_command_is_refused : NoCommandIsRefused
no_command_is_refused c word none whole =
    let did : Does c.words (Err word) c.old c.new c.answered.ending = does_by c.words (Err word) (command_of c.words) c.old c.new c.answered.ending none c.answered.executed in
    let w : IsWholly c c.answered.ending = wholly_by c whole in
    let said : AnswersEnding c c.answered.ending = record { outcome = w.outcome; line = w.line; quiet = did.1.quiet } in
    subst (AnswersEnding c) did.0 said

-- ---- files

module _ (c : Call) (n : NothingFailed c) (operand sum : ℕ) where
  abbrev Long : (ending : Ending) → Type 0
  Long ending = EndsSo c ending (endings.Refused (refusals.TooBig operand sum))

  text_refused : (word : ℕ) → operand < word + 1 → PassesMost c word operand sum → (refusal : Refusal) → IsQuiet c.old c.new → NotAssembled word c.old c.new refusal → Long (endings.Refused refusal)
  text_refused word below h (refusals.TooBig other total) quiet fault = record { is = inl (too_big_alone c word operand sum below h other total fault); quiet = quiet }
  text_refused word below h (refusals.Asm refusal) quiet fault = absurd (not_read c word operand sum below h fault.0 fault.1)
  text_refused word below h refusal quiet fault = absurd fault

  text_long : (word : ℕ) → operand < word + 1 → PassesMost c word operand sum → (ending : Ending) → Assembles word c.old c.new ending → Long ending
  text_long word below h endings.Written did = absurd (not_read c word operand sum below h did.lists.text did.lists.reads)
  text_long word below h (endings.Refused refusal) did = text_refused word below h refusal did.1 did.0
  text_long word below h endings.ReadFault did = absurd (not_failed_alone c word operand sum below h n did.1)
  text_long word below h endings.WriteFault did = absurd (not_read c word operand sum below h did.lists.text did.lists.reads)
  text_long word below h endings.NoMemory did = record { is = inr refl; quiet = did.1 }
  text_long word below h ending did = absurd did

  long : (task : Task) (ending : Ending) → operand < end_of_operands c.old.words task → PassesMost c (first_operand task) operand sum → DoesTask c.words task c.old c.new ending → Long ending
  long (tasks.Run settings show image) ending below h did =
      ⊎_elim
      (λ fault. file_ends c image operand sum below h n ending fault.1 fault.0)
      (λ read. ⊎_elim
      (λ r. absurd (not_read c image operand sum below h r.bytes r.reads))
      (λ r. absurd (not_read c image operand sum below h r.bytes r.reads.reads))
      read)
      did
  long (tasks.Profile settings image) ending below h did =
      ⊎_elim (λ fault. operands_end c image operand sum h n (image + 2) ending fault.1 fault.0) (λ r. absurd (not_all c image operand sum h (image + 2) below r.operands r.are)) did
  long (tasks.Plan settings rounds table) ending below h did =
      ⊎_elim (λ fault. operands_end c table operand sum h n c.old.words ending fault.1 fault.0) (λ r. absurd (not_all c table operand sum h c.old.words below r.operands r.are)) did
  long (tasks.Cycle settings rounds table) ending below h did =
      ⊎_elim (λ fault. operands_end c table operand sum h n c.old.words ending fault.1 fault.0) (λ r. absurd (not_all c table operand sum h c.old.words below r.operands r.are)) did
  long (tasks.Assemble text) ending below h did = text_long text below h ending did
  long (tasks.Link main first) ending below h did =
      ⊎_elim (λ fault. operands_end c first operand sum h n c.old.words ending fault.1 fault.0) (λ r. absurd (not_all c first operand sum h c.old.words below r.files r.reads.are)) did
  long (tasks.Ask asked) ending below h did =
      ⊎_elim
      (λ fault. operands_end c asked.image operand sum h n (asked.image + asked.operands) ending fault.1 fault.0)
      (λ r. absurd (not_all c asked.image operand sum h (asked.image + asked.operands) below r.operands r.are))
      did
  long (tasks.AskWith asked) ending below h did =
      ⊎_elim
      (λ fault. operands_end c asked.image operand sum h n (asked.image + asked.operands) ending fault.1 fault.0)
      (λ rest. ⊎_elim
      (λ f. absurd (not_all c asked.image operand sum h (asked.image + asked.operands) below f.0.operands f.0.reads.are))
      (λ r. absurd (not_all c asked.image operand sum h (asked.image + asked.operands) below r.operands r.reads.are))
      rest)
      did
  long (tasks.Work count) ending below h did = absurd (omega (arith, below))

pub long_files_are_refused : LongFilesAreRefused
long_files_are_refused c command operand sum said below h n =
    let did : DoesTask c.words (task_of command) c.old c.new c.answered.ending = executed c command said in
    answers_so c c.answered.ending (endings.Refused (refusals.TooBig operand sum)) (wholly c n) (long c n operand sum (task_of command) c.answered.ending below h did)

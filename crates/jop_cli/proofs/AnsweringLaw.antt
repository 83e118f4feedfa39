-- Each question about what is linked is answered.
use Rattle.std.proofs.Common.{◌≡◌, ℕ, ◌+◌, List, sym, ◌∙◌, ap, subst}
use Rattle.std.specs.Prelude.{Ok}
use Rattle.outside.specs.Outside.{Grew}
use Rattle.command_line.specs.declared.command.Command.{Command}
use Rattle.jopizer.specs.Linked.{Parts}
use Rattle.jopizer.specs.Laws.{OneLinked, LinkedImagesAreRead}
use Rattle.ask_commands.specs.declared.asking.Asked.{Asked}
use Rattle.endings.specs.declared.outcome.Ending.{Ending}
use Rattle.endings.specs.Line.{line_of}
use Rattle.endings.specs.World.{World}
use Rattle.jop_cli.specs.declared.task.Task.{Task}
use Rattle.jop_cli.specs.declared.task.Task.TheVariants.{Ask}
use Rattle.ask_commands.specs.Asking.{AsksFiles}
use Rattle.jop_cli.specs.Tasks.{task_of}
use Rattle.jop_cli.specs.Answer.{DoesTask, Does, outcome_of}
use Rattle.jop_cli.specs.Calls.{Call}
use Rattle.jop_cli.specs.promises.Questions.{IsAnswered, puts, says, lacks, QuestionsAreAnswered}
use Rattle.jop_cli.proofs.Wholly.{IsWholly, wholly, executed}
use Rattle.jop_cli.proofs.Wholly as whole
use Rattle.jop_cli.proofs.AskingLaw.{Comes, comes}
use Rattle.jop_cli.proofs.AskingLaw as asked

-- what a command does that asks a question
pub asks : (words : List (List ℕ)) (command : Command) (a : Asked) (old new : World) (ending : Ending) → task_of command ≡ Ask a → Does words (Ok command) old new ending → AsksFiles words a old new ending
asks words command a old new ending is does = subst (λ (x : Task). DoesTask words x old new ending) is does

answered : (c : Call) (a : Asked) (l : Parts) (files : List (List ℕ)) (ending : Ending) → IsWholly c ending → Comes c a l files ending → IsAnswered c a.question l files
answered c a l files ending w (asked.puts text is written put sound) =
    puts text is (w.outcome ∙ ap outcome_of written) (record { out = put; err = subst (λ (x : List ℕ). Grew c.err_old c.err_new x) (ap (line_of c.words) written) w.line })
answered c a l files ending w (asked.says is quiet sound) = says ending is w.outcome w.line quiet
answered c a l files ending w (asked.lacking is quiet) = lacks (whole.lacks c ending w is quiet)

pub questions_are_answered : OneLinked → LinkedImagesAreRead → QuestionsAreAnswered
questions_are_answered linked_one images c command a l files is of long told is_linked is_file n =
    let many : a.image + a.operands ≡ c.old.words = ap (λ (k : ℕ). a.image + k) (sym long) ∙ told.many in
    answered c a l files c.answered.ending (wholly c n)
    (comes linked_one images c n a l files many told is_linked is_file c.answered.ending (asks c.words command a c.old c.new c.answered.ending of (executed c command is)))

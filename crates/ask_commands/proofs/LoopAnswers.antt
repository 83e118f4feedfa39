-- What is answered of loops that count: lines, or want of memory.
use Rattle.std.proofs.Common.{ℕ, true, false, List, sym, subst}
use Rattle.std.specs.Prelude.{Result, Ok, Err, IfOk, Vec}
use Rattle.std.specs.declared.alloc.Global.{Global}
use Rattle.base.specs.declared.no_memory.NoMemory.{NoMemory as Lacking}
use Rattle.class_pool.specs.declared.class.ClassFile.{ClassFile}
use Rattle.analysis_commands.specs.Loops.{AreLoopLines, AreFurtherLines}
use Rattle.endings.specs.declared.outcome.Answer.{Answer}
use Rattle.endings.specs.declared.outcome.Answer.TheVariants.{Text, Ends}
use Rattle.ask_commands.specs.Needs.{AnswersLoops, IsLineAnswer}

pub further_answers : (cs : List ClassFile) (r : Result (Vec ℕ Global) Lacking) (a : Answer) → IfOk r (λ text. AreFurtherLines cs text.items) → IsLineAnswer r a
    → AnswersLoops true cs a
further_answers cs (Ok line) (Text text) are same = subst (λ (xs : List ℕ). AreFurtherLines cs xs) (sym same) are
further_answers cs (Ok line) (Ends e) are same = absurd same
further_answers cs (Err lacking) (Text text) are same = absurd same
further_answers cs (Err lacking) (Ends e) are same = same

pub loop_answers : (cs : List ClassFile) (r : Result (Vec ℕ Global) Lacking) (a : Answer) → IfOk r (λ text. AreLoopLines cs text.items) → IsLineAnswer r a
    → AnswersLoops false cs a
loop_answers cs (Ok line) (Text text) are same = subst (λ (xs : List ℕ). AreLoopLines cs xs) (sym same) are
loop_answers cs (Ok line) (Ends e) are same = absurd same
loop_answers cs (Err lacking) (Text text) are same = absurd same
loop_answers cs (Err lacking) (Ends e) are same = same

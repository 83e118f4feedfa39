-- The outside is as it was after an outcome, where it is so after its ending.
use Rattle.std.proofs.Common.{ℕ}
use Rattle.endings.specs.declared.outcome.Ending.{Ending}
use Rattle.endings.specs.declared.outcome.Ending.TheVariants.{Ended, Written, Linked, Holds, Uncaught, Refused, TooLong, NotLinked, NotHeld}
use Rattle.endings.specs.declared.outcome.Ending.TheVariants.{NotPriced, NotAnswered, Spent, CycleEnded, CycleUncaught, CycleSpent, ReadFault, InputFault, WriteFault, NoMemory}
use Rattle.jop_cli.specs.Answer.{outcome_of, outcome_unsaid}
use Rattle.endings.specs.Leaving.{Leaves, FailsRisen, LeavesAll}

pub leaves_said : (ending : Ending) (before now : ℕ) → FailsRisen ending before now → LeavesAll (outcome_of ending) before now → Leaves ending
leaves_said (Ended counts) before now risen all = all
leaves_said Written before now risen all = all
leaves_said (Linked sizes) before now risen all = all
leaves_said (Holds held) before now risen all = tt
leaves_said (Uncaught class name counts) before now risen all = all
leaves_said (Refused refusal) before now risen all = tt
leaves_said (TooLong method name blocks limit) before now risen all = tt
leaves_said (NotLinked refusal name) before now risen all = tt
leaves_said (NotHeld fault name) before now risen all = tt
leaves_said (NotPriced method node name) before now risen all = tt
leaves_said (NotAnswered cause subject) before now risen all = tt
leaves_said (Spent counts) before now risen all = all
leaves_said (CycleEnded slots) before now risen all = all
leaves_said (CycleUncaught class name slots) before now risen all = all
leaves_said (CycleSpent slots) before now risen all = all
leaves_said ReadFault before now risen all = tt
leaves_said InputFault before now risen all = all risen
leaves_said WriteFault before now risen all = all
leaves_said NoMemory before now risen all = tt

pub leaves_unsaid : (ending : Ending) (before now : ℕ) → FailsRisen ending before now → LeavesAll (outcome_unsaid ending) before now → Leaves ending
leaves_unsaid (Ended counts) before now risen all = all
leaves_unsaid Written before now risen all = all
leaves_unsaid (Linked sizes) before now risen all = all
leaves_unsaid (Holds held) before now risen all = tt
leaves_unsaid (Uncaught class name counts) before now risen all = all
leaves_unsaid (Refused refusal) before now risen all = tt
leaves_unsaid (TooLong method name blocks limit) before now risen all = tt
leaves_unsaid (NotLinked refusal name) before now risen all = tt
leaves_unsaid (NotHeld fault name) before now risen all = tt
leaves_unsaid (NotPriced method node name) before now risen all = tt
leaves_unsaid (NotAnswered cause subject) before now risen all = tt
leaves_unsaid (Spent counts) before now risen all = all
leaves_unsaid (CycleEnded slots) before now risen all = all
leaves_unsaid (CycleUncaught class name slots) before now risen all = all
leaves_unsaid (CycleSpent slots) before now risen all = all
leaves_unsaid ReadFault before now risen all = tt
leaves_unsaid InputFault before now risen all = all risen
leaves_unsaid WriteFault before now risen all = all
leaves_unsaid NoMemory before now risen all = tt

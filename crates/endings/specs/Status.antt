-- The status that the process ends with.
use Rattle.std.specs.Prelude.{ℕ}
use Rattle.endings.specs.declared.outcome.Outcome.{Outcome}
use Rattle.endings.specs.declared.outcome.Outcome.TheVariants.{Ended, Written, Holds, Uncaught, Refused, Spent, ReadFault, WriteFault, NoMemory}

abbrev pub status_of : Outcome → ℕ
status_of Ended = 0
status_of Written = 0
status_of Holds = 0
status_of (Uncaught class) = 1
status_of (Refused refusal) = 2
status_of Spent = 3
status_of ReadFault = 4
status_of WriteFault = 4
status_of NoMemory = 5

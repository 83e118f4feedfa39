-- After which endings the outside is as it was.
use Rattle.std.specs.Prelude.{ℕ}
use Rattle.outside.specs.Outside.{Rose}
use Rattle.endings.specs.declared.outcome.Ending.{Ending}
use Rattle.endings.specs.declared.outcome.Ending.TheVariants.{Ended, Written, Linked, Holds, Uncaught}
use Rattle.endings.specs.declared.outcome.Ending.TheVariants.{Refused, TooLong, NotLinked, NotHeld, NotPriced, NotAnswered, Spent}
use Rattle.endings.specs.declared.outcome.Ending.TheVariants.{CycleEnded, CycleUncaught, CycleSpent}
use Rattle.endings.specs.declared.outcome.Ending.TheVariants.{ReadFault, InputFault, WriteFault, NoMemory}
use Rattle.endings.specs.declared.outcome.Outcome.{Outcome}
use Rattle.endings.specs.declared.outcome.Outcome.TheVariants as outcomes

-- an ending after which the input, out and the watch are as they were
abbrev pub Leaves : Ending → Type 0
Leaves (Ended counts) = ⊥
Leaves Written = ⊥
Leaves (Linked sizes) = ⊥
Leaves (Holds held) = Unit {0}
Leaves (Uncaught class name counts) = ⊥
Leaves (Refused refusal) = Unit {0}
Leaves (TooLong method name blocks limit) = Unit {0}
Leaves (NotLinked refusal name) = Unit {0}
Leaves (NotHeld fault name) = Unit {0}
Leaves (NotPriced method node name) = Unit {0}
Leaves (NotAnswered cause subject) = Unit {0}
Leaves (Spent counts) = ⊥
Leaves (CycleEnded slots) = ⊥
Leaves (CycleUncaught class name slots) = ⊥
Leaves (CycleSpent slots) = ⊥
Leaves ReadFault = Unit {0}
Leaves InputFault = ⊥
Leaves WriteFault = ⊥
Leaves NoMemory = Unit {0}

-- the input fails only where its count rose
abbrev pub FailsRisen : Ending → (before now : ℕ) → Type 0
FailsRisen InputFault before now = Rose before now
FailsRisen ending before now = Unit {0}

-- an outcome after which they are as they were, and the input's counts of faults; where the input failed it was a run's
abbrev pub LeavesAll : Outcome → (before now : ℕ) → Type 0
LeavesAll outcomes.Ended before now = ⊥
LeavesAll outcomes.Written before now = ⊥
LeavesAll outcomes.Holds before now = Unit {0}
LeavesAll (outcomes.Uncaught class) before now = ⊥
LeavesAll (outcomes.Refused refusal) before now = Unit {0}
LeavesAll outcomes.Spent before now = ⊥
LeavesAll outcomes.ReadFault before now = Rose before now → ⊥
LeavesAll outcomes.WriteFault before now = ⊥
LeavesAll outcomes.NoMemory before now = Unit {0}

use Rattle.program_tables.specs.Resolved.{resolved}
use Rattle.array_fields.proofs.Subclassing.{HasMarkedBelow}
use Rattle.array_fields.proofs.sharing.mark.Given as goal

abbrev pub invariant-loop-other : goal.invariant-loop-other
invariant-loop-other l = HasMarkedBelow (resolved l.program) l.class l.other l.initial.flags.items l.flags.items

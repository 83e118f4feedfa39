use Rattle.std.proofs.Common.{length}
use Rattle.program_tables.specs.Resolved.{resolved}
use Rattle.array_fields.proofs.Subclassing.{AreSharingBelow}
use Rattle.array_fields.proofs.sharing.sharing.Given as goal

abbrev pub invariant-loop-lower : goal.invariant-loop-lower
invariant-loop-lower l = AreSharingBelow (resolved l.program) (length l.program) l.lower l.class l.flags.items

use Rattle.program_tables.specs.Resolved.{resolved}
use Rattle.flow_table.specs.Targets.{AreSelected}
use Rattle.flow_table.proofs.targets.selected_lists.Given as goal

abbrev pub invariant-loop-method : goal.invariant-loop-method
invariant-loop-method l = AreSelected (resolved l.program) l.marks l.method l.lists.items

use Rattle.loop_rules.specs.Sites.{int_at}
use Rattle.program_tables.specs.Resolved.{resolved}
use Rattle.program_sites.specs.Ints.Constants.{AreSitesBelow}
use Rattle.program_sites.proofs.ints.sites.method_sites.Given as goal

abbrev pub invariant-loop-number : goal.invariant-loop-number
invariant-loop-number l = AreSitesBelow (resolved l.program) (int_at l.constants) l.number l.methods.items

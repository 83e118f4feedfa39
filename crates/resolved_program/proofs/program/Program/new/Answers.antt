use Rattle.std.proofs.Common.{sym, ◌∙◌, subst}
use Rattle.resolved_program.specs.Resolved.{AreResolved}
use Rattle.resolved_program.proofs.program.Program.new.Goals as goal

pub from_hierarchy-requires : goal.from_hierarchy-requires
from_hierarchy-requires c = subst AreResolved (sym c.in_ok-listed.ensures ∙ sym c.in_ok-hierarchy.ensures) c.requires

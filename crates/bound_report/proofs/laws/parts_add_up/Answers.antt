use Rattle.bound_report.proofs.Adding.{parts_add_up}
use Rattle.bound_report.proofs.laws.parts_add_up.Goals as goal

pub returns : goal.returns
returns c = parts_add_up

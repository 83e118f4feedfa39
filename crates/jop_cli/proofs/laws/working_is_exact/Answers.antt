use Rattle.jop_cli.proofs.WorkingLaw.{complete, are_true}
use Rattle.jop_cli.proofs.laws.working_is_exact.Goals as goal

pub returns-clause-complete : goal.returns-clause-complete
returns-clause-complete c = complete

pub returns-clause-right : goal.returns-clause-right
returns-clause-right c = are_true

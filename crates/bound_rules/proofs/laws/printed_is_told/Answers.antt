use Rattle.bound_rules.proofs.Printing.{printed_is_told}
use Rattle.bound_rules.proofs.laws.printed_is_told.Goals as goal

pub returns : goal.returns
returns c = printed_is_told

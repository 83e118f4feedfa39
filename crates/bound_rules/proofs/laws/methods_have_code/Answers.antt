use Rattle.bound_rules.proofs.Coding.{methods_have_code}
use Rattle.bound_rules.proofs.laws.methods_have_code.Goals as goal

pub returns : goal.returns
returns c = methods_have_code

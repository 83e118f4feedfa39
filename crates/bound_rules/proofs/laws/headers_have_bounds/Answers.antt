use Rattle.bound_rules.proofs.Headers.{headers_have_bounds}
use Rattle.bound_rules.proofs.laws.headers_have_bounds.Goals as goal

pub returns : goal.returns
returns c = headers_have_bounds

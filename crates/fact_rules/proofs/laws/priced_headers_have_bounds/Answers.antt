use Rattle.fact_rules.proofs.Headers.{priced_headers_have_bounds}
use Rattle.fact_rules.proofs.laws.priced_headers_have_bounds.Goals as goal

pub returns : goal.returns
returns c = priced_headers_have_bounds

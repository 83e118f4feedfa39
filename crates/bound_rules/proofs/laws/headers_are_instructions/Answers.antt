use Rattle.bound_rules.proofs.Heading.{headers_are_instructions}
use Rattle.bound_rules.proofs.laws.headers_are_instructions.Goals as goal

pub returns : goal.returns
returns c = headers_are_instructions c.walks_lead_on.ensures.comes_by

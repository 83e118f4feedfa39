use Rattle.fact_rules.proofs.Plain.{plain_is_priced}
use Rattle.fact_rules.proofs.laws.plain_is_priced.Goals as goal

pub returns : goal.returns
returns c = plain_is_priced c.plain_is_paid.ensures.conditions c.plain_is_paid.ensures.value c.no_value_no_end.ensures

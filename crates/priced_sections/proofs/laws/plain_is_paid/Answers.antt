use Rattle.priced_sections.proofs.Plain.{plain_is_paid, plain_value_is_paid}
use Rattle.priced_sections.proofs.laws.plain_is_paid.Goals as goal

pub returns-clause-conditions : goal.returns-clause-conditions
returns-clause-conditions c = plain_is_paid

pub returns-clause-value : goal.returns-clause-value
returns-clause-value c = plain_value_is_paid

use Rattle.section_check.proofs.Moving.{renumbered_stays_accepted, renumbered_stays_in_form}
use Rattle.section_check.proofs.laws.renumbered_stays_accepted.Goals as goal

pub returns-clause-accepted : goal.returns-clause-accepted
returns-clause-accepted c = renumbered_stays_accepted

pub returns-clause-form : goal.returns-clause-form
returns-clause-form c = renumbered_stays_in_form

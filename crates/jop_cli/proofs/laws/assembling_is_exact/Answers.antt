use Rattle.jop_cli.proofs.AssemblingLaw as law
use Rattle.jop_cli.proofs.ShownTexts.{listings_are_shown}
use Rattle.jop_cli.proofs.laws.assembling_is_exact.Goals as goal

pub returns-clause-complete : goal.returns-clause-complete
returns-clause-complete c = law.assembling_is_complete

pub returns-clause-refused : goal.returns-clause-refused
returns-clause-refused c = law.refusals_are_answered

pub returns-clause-one : goal.returns-clause-one
returns-clause-one c = law.refusals_are_one

pub returns-clause-shown : goal.returns-clause-shown
returns-clause-shown c = listings_are_shown

use Rattle.jop_cli.proofs.LinkingLaw as law
use Rattle.jop_cli.proofs.ShownTexts.{linked_images_are_shown}
use Rattle.jop_cli.proofs.laws.linking_is_exact.Goals as goal

pub returns-clause-complete : goal.returns-clause-complete
returns-clause-complete c = law.linking_is_complete

pub returns-clause-refused : goal.returns-clause-refused
returns-clause-refused c = law.refusals_are_answered c.linked_files_are_not_refused.ensures c.refusals_are_one.ensures

pub returns-clause-one : goal.returns-clause-one
returns-clause-one c = law.refusals_are_one c.linked_files_are_not_refused.ensures c.refusals_are_one.ensures

pub returns-clause-shown : goal.returns-clause-shown
returns-clause-shown c = linked_images_are_shown

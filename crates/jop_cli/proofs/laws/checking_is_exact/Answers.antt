use Rattle.jop_cli.proofs.CheckingLaw as law
use Rattle.jop_cli.proofs.laws.checking_is_exact.Goals as goal

pub returns-clause-complete : goal.returns-clause-complete
returns-clause-complete c =
    law.checking_is_complete c.gives_one.ensures c.read_is_not_refused.ensures c.has_one_certificate.ensures c.one_linked.ensures c.linked_images_are_read.ensures c.refused_is_not_met.ensures

pub returns-clause-faults : goal.returns-clause-faults
returns-clause-faults c =
    law.faults_are_answered c.gives_one.ensures c.read_is_not_refused.ensures c.has_one_certificate.ensures c.one_linked.ensures c.linked_images_are_read.ensures c.refused_is_not_met.ensures c.faults_are_one.ensures

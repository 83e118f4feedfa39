use Rattle.jop_cli.proofs.AnsweringLaw as law
use Rattle.jop_cli.proofs.laws.questions_are_answered.Goals as goal

pub returns : goal.returns
returns c = law.questions_are_answered c.one_linked.ensures c.linked_images_are_read.ensures

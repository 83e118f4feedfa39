use Rattle.image_file.specs.Linked.{contents}
use Rattle.endings.proofs.linking.linked_file.Goals as goal

pub returns-in-Ok-clause-fault : goal.returns-in-Ok-clause-fault
returns-in-Ok-clause-fault c = c.file_made.ensures.memory (contents c.args.files.now) c.args.main.now

pub returns-in-Err-clause-fault : goal.returns-in-Err-clause-fault
returns-in-Err-clause-fault c = c.not_linked.ensures c.args.main.now c.in-Err.ensures.refused

use Rattle.image_file.specs.Linked.{contents}
use Rattle.image_file.proofs.Sequences.{files_taken}
use Rattle.image_file.proofs.linked.reading.files_of.Goals as goal

pub returns : goal.returns
returns c = files_taken (contents c.loop-file.files.items) c.args.bytes.now c.loop-file.rest.now c.loop-file.invariant c.in_default.ensures

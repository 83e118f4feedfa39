use Rattle.machine_stands.proofs.Beginning.{bare_begins}
use Rattle.machine_stands.proofs.bare_images_begin.Goals as goal

pub returns : goal.returns
returns c = bare_begins c.packed_has_words.ensures c.packed_has_bytes.ensures

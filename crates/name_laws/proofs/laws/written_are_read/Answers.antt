use Rattle.name_laws.proofs.ReadBack.{are_read}
use Rattle.name_laws.proofs.laws.written_are_read.Goals as goal

pub returns : goal.returns
returns c = are_read

use Rattle.name_laws.proofs.ReadBack.{alike_are_one}
use Rattle.name_laws.proofs.laws.written_alike_are_one.Goals as goal

pub returns : goal.returns
returns c = alike_are_one

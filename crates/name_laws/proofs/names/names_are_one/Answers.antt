use Rattle.name_laws.proofs.NamesAreOne.{names_are_one}
use Rattle.name_laws.proofs.names.names_are_one.Goals as goal

pub returns : goal.returns
returns c = names_are_one

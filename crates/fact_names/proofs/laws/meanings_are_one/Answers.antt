use Rattle.fact_names.proofs.Uniting.{meanings_are_one}
use Rattle.fact_names.proofs.laws.meanings_are_one.Goals as goal

pub returns : goal.returns
returns c = meanings_are_one

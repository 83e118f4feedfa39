use Rattle.fact_names.proofs.Examples.{named_rows}
use Rattle.fact_names.proofs.laws.worked_examples.Goals as goal

pub returns : goal.returns
returns c = named_rows

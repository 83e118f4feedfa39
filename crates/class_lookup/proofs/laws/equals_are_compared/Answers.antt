use Rattle.class_lookup.proofs.Overriding.{comparisons}
use Rattle.class_lookup.proofs.laws.equals_are_compared.Goals as goal

pub returns : goal.returns
returns c = comparisons

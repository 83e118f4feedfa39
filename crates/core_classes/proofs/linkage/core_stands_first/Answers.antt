use Rattle.core_classes.proofs.First as lemmas
use Rattle.core_classes.proofs.linkage.core_stands_first.Goals as goal

pub returns : goal.returns
returns c = lemmas.core_stands_first

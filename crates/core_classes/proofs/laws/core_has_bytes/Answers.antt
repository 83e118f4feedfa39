use Rattle.core_classes.proofs.CoreLaws as lemmas
use Rattle.core_classes.proofs.laws.core_has_bytes.Goals as goal

pub returns : goal.returns
returns c = lemmas.core_has_bytes c.items_are_few.ensures c.plans_have_bytes.ensures

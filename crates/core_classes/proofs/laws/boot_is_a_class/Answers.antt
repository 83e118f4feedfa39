use Rattle.core_classes.proofs.BootLaws as lemmas
use Rattle.core_classes.proofs.laws.boot_is_a_class.Goals as goal

pub returns : goal.returns
returns c = lemmas.boot_is_a_class c.items_are_few.ensures c.plans_are_classes.ensures c.plans_have_bytes.ensures

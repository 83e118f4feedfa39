use Rattle.core_classes.proofs.BootSupport as lemmas
use Rattle.core_classes.proofs.linkage.boot_is_supported.Goals as goal

pub returns : goal.returns
returns c = lemmas.boot_supported c.items_are_few.ensures c.plans_have_entries.ensures c.boot_says_plan.ensures

use Rattle.core_classes.proofs.Below as lemmas
use Rattle.core_classes.proofs.linkage.core_is_linkable.Goals as goal

pub returns : goal.returns
returns c = lemmas.core_links

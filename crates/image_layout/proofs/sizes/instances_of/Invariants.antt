use Rattle.image_builder.proofs.ListLemmas.{AllTo}
use Rattle.image_layout.proofs.SizeLemmas.{HasFields}
use Rattle.image_layout.proofs.sizes.instances_of.Given as goal

abbrev pub invariant-loop-class : goal.invariant-loop-class
invariant-loop-class l = AllTo (HasFields l.program) l.class l.runs.items

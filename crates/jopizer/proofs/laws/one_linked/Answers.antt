use Rattle.jopizer.proofs.OneLemmas as one
use Rattle.jopizer.proofs.laws.one_linked.Goals as goal

pub returns : goal.returns
returns c = one.one_linked c.one_class.ensures c.one_image.ensures

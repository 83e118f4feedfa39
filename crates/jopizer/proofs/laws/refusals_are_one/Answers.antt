use Rattle.jopizer.proofs.OneRefusal as law
use Rattle.jopizer.proofs.laws.refusals_are_one.Goals as goal

pub returns : goal.returns
returns c = law.refusals_are_one c.one_class.ensures

use Rattle.jopizer.proofs.MainLemmas as law
use Rattle.jopizer.proofs.laws.main_is_there.Goals as goal

pub returns : goal.returns
returns c files main cs h = law.main_is_there c.core_is_named.ensures c.methods_have_code.ensures files main cs h.program

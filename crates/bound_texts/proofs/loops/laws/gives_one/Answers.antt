use Rattle.bound_texts.proofs.LoopsLemmas.OneReading as law
use Rattle.bound_texts.proofs.loops.laws.gives_one.Goals as goal

pub returns : goal.returns
returns c = law.gives_one

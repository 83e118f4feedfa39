use Rattle.bound_texts.proofs.LoopsLemmas.OneReading as law
use Rattle.bound_texts.proofs.loops.laws.read_lengths_are_not_refused.Goals as goal

pub returns : goal.returns
returns c = law.read_lengths_are_not_refused

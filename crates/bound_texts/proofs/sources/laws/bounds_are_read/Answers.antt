use Rattle.bound_texts.proofs.SourcesLemmas.OneReading as law
use Rattle.bound_texts.proofs.sources.laws.bounds_are_read.Goals as goal

pub returns : goal.returns
returns c = law.bounds_are_read

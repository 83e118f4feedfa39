use Rattle.bound_texts.proofs.SourcesLemmas.OneReading as law
use Rattle.bound_texts.proofs.sources.laws.gives_one.Goals as goal

pub returns : goal.returns
returns c = law.gives_one

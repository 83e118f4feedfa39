use Rattle.bound_texts.proofs.SourcesLemmas.OneReading as law
use Rattle.bound_texts.proofs.sources.laws.read_is_not_refused.Goals as goal

pub returns : goal.returns
returns c = law.read_is_not_refused

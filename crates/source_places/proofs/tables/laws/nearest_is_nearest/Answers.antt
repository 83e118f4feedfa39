use Rattle.source_places.proofs.TablesLemmas.TableLaws as law
use Rattle.source_places.proofs.tables.laws.nearest_is_nearest.Goals as goal

pub returns : goal.returns
returns c = law.nearest_is_nearest

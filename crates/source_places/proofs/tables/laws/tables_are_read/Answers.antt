use Rattle.source_places.proofs.TablesLemmas.TableLaws as law
use Rattle.source_places.proofs.tables.laws.tables_are_read.Goals as goal

pub returns : goal.returns
returns c = law.tables_are_read

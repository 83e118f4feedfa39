use Rattle.source_headers.proofs.WholeLemmas as law
use Rattle.source_headers.proofs.laws.files_bound_headers.Goals as goal

pub returns-clause-bounds : goal.returns-clause-bounds
returns-clause-bounds c = law.bounds_written c.header_files_are_read.ensures c.written_names_are_one.ensures c.gives_one.ensures

pub returns-clause-sources : goal.returns-clause-sources
returns-clause-sources c = law.found_or_said c.header_files_are_read.ensures c.written_names_are_one.ensures c.gives_one.ensures

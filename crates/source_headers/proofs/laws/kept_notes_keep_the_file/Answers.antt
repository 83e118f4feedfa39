use Rattle.source_headers.proofs.WholeLemmas as law
use Rattle.source_headers.proofs.laws.kept_notes_keep_the_file.Goals as goal

pub returns : goal.returns
returns c = law.file_kept c.header_files_are_read.ensures c.written_names_are_one.ensures c.gives_one.ensures

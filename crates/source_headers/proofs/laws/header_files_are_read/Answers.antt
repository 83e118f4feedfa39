use Rattle.source_headers.proofs.WholeLemmas as law
use Rattle.source_headers.proofs.laws.header_files_are_read.Goals as goal

pub returns : goal.returns
returns c = law.files_are_read c.graphs_are_moved.ensures.graphs c.parts_are_sound.ensures c.ends_are_one.ensures c.graphs_are_one.ensures.whole c.methods_have_code.ensures c.methods_stand_by_number.ensures c.written_are_words.ensures c.written_names_are_one.ensures

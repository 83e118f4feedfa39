use Rattle.source_headers.proofs.WholeLemmas as law
use Rattle.source_headers.proofs.laws.roots_have_lines.Goals as goal

pub returns : goal.returns
returns c = law.roots_have_lines c.header_files_are_read.ensures c.written_names_are_one.ensures c.gives_one.ensures c.graphs_are_moved.ensures.graphs c.parts_are_sound.ensures c.ends_are_one.ensures c.graphs_are_one.ensures.whole

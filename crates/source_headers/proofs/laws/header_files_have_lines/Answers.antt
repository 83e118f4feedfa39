use Rattle.source_headers.proofs.LawLemmas.{have_lines}
use Rattle.source_headers.proofs.laws.header_files_have_lines.Goals as goal

pub returns : goal.returns
returns c = have_lines c.graphs_are_moved.ensures.graphs c.parts_are_sound.ensures c.ends_are_one.ensures c.graphs_are_one.ensures.whole

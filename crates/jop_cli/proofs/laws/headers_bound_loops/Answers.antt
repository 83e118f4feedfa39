use Rattle.jop_cli.proofs.NotedLaw as law
use Rattle.jop_cli.proofs.OneHeaders.{header_files_are_one}
use Rattle.jop_cli.proofs.ShownTexts.{headers_are_shown}
use Rattle.jop_cli.proofs.laws.headers_bound_loops.Goals as goal

pub returns-clause-taken : goal.returns-clause-taken
returns-clause-taken c = law.header_files_are_taken c.header_files_are_read.ensures c.files_bound_headers.ensures.bounds

pub returns-clause-bounds : goal.returns-clause-bounds
returns-clause-bounds c = c.roots_have_lines.ensures

pub returns-clause-kept : goal.returns-clause-kept
returns-clause-kept c = law.noted_loops_are_kept c.found_loops_count.ensures c.files_bound_headers.ensures.sources c.loops_count.ensures.kept

pub returns-clause-shown : goal.returns-clause-shown
returns-clause-shown c = headers_are_shown

pub returns-clause-one : goal.returns-clause-one
returns-clause-one c = header_files_are_one c.graphs_are_moved.ensures.graphs c.ends_are_one.ensures c.graphs_are_one.ensures.whole c.gives_one.ensures

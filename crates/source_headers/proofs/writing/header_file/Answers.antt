use Rattle.source_headers.proofs.StrayLemmas.{file_of_lines, fault_of_lines}
use Rattle.source_headers.proofs.writing.header_file.Goals as goal

pub returns-clause-file : goal.returns-clause-file
returns-clause-file c = file_of_lines c.args.program.now c.args.lines.now c.in_ok-notes.notes c.in_ok-notes.ensures.read c.noted_file.result c.noted_file.ensures.file

pub returns-clause-fault : goal.returns-clause-fault
returns-clause-fault c = fault_of_lines c.args.program.now c.args.lines.now c.in_ok-notes.notes c.in_ok-notes.ensures.read c.noted_file.result c.noted_file.ensures.fault

use Rattle.program_tables.specs.Resolved.{resolved}
use Rattle.source_headers.proofs.FoundLemmas.{are_rising}
use Rattle.source_headers.proofs.StrayLemmas.{noted_is, noted_fault}
use Rattle.source_headers.proofs.writing.noted_file.Goals as goal

pub file_by-requires-clause-found : goal.file_by-requires-clause-found
file_by-requires-clause-found c =
    let all = c.in_ok-loops.ensures.counted (resolved c.args.program.now) c.requires.flow c.in_ok-sites.ensures.sites in
    are_rising c.in_ok-loops.loops.counted.items all.rising

pub file_by-requires-clause-headers : goal.file_by-requires-clause-headers
file_by-requires-clause-headers c = c.in_ok-loops.ensures.headers (resolved c.args.program.now) c.requires.flow c.in_ok-sites.ensures.sites

pub returns-clause-file : goal.returns-clause-file
returns-clause-file c =
    let all = c.in_ok-loops.ensures.counted (resolved c.args.program.now) c.requires.flow c.in_ok-sites.ensures.sites in
    noted_is c.args.program.now c.args.notes.now c.in_ok-sites.sites.constants c.in_ok-loops.loops.counted.items c.in_ok-sites.ensures.constants all c.file_by.result c.file_by.ensures.file

pub returns-clause-fault : goal.returns-clause-fault
returns-clause-fault c = noted_fault c.args.program.now c.args.notes.now c.file_by.result c.file_by.ensures.fault

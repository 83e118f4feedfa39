use Rattle.source_headers.proofs.StrayLemmas.{file_is, fault_is}
use Rattle.source_headers.proofs.writing.file_by.Goals as goal

pub returns-clause-file : goal.returns-clause-file
returns-clause-file c =
    file_is c.args.program.now c.args.notes.now c.args.loops.now.counted.items c.args.flow.now c.requires.flow c.in_ok-gathered.gathered c.in_ok-gathered.ensures c.text_of.result c.text_of.ensures.text c.text_of.ensures.used

pub returns-clause-fault : goal.returns-clause-fault
returns-clause-fault c =
    fault_is c.args.program.now c.args.notes.now c.args.loops.now.counted.items c.args.flow.now c.requires.flow c.in_ok-gathered.gathered c.in_ok-gathered.ensures c.text_of.result c.text_of.ensures.fault

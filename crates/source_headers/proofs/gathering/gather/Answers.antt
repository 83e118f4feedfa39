use Rattle.source_headers.proofs.GatherLemmas.{none_gathered}
use Rattle.source_headers.proofs.gathering.gather.Goals as goal

pub add_methods-requires-clause-none : goal.add_methods-requires-clause-none
add_methods-requires-clause-none c =
    none_gathered c.args.program.now c.args.notes.now c.args.loops.now.counted.items (record { text = c.new.result; methods = c.new-2.result; files = c.in_ok-files.files }) c.new.ensures.items c.new-2.ensures c.in_ok-files.ensures.names
    c.in_ok-files.ensures.sites

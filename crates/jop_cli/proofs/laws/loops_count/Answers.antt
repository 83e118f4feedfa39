use Rattle.jop_cli.proofs.LoopsLaw.{written_loops_count}
use Rattle.jop_cli.proofs.CountedLaw.{counted_loops_are_kept, further_loops_are_kept}
use Rattle.jop_cli.proofs.OneLoops.{loop_lines_are_one, further_lines_are_one}
use Rattle.jop_cli.proofs.FoundLoops as frames
use Rattle.jop_cli.proofs.laws.loops_count.Goals as goal

pub returns-clause-written : goal.returns-clause-written
returns-clause-written c = written_loops_count c.found_loops_count.ensures c.further_found_loops_count.ensures

pub returns-clause-found : goal.returns-clause-found
returns-clause-found c =
    frames.found_loops_are_kept c.graphs_are_one.ensures.whole c.further_loops_keep.ensures c.counted_loops_are_further.ensures c.boot_holds_constants.ensures

pub returns-clause-further_found : goal.returns-clause-further_found
returns-clause-further_found c =
    frames.further_found_loops_are_kept c.graphs_are_one.ensures.whole c.further_loops_keep.ensures c.boot_holds_constants.ensures c.boot_holds_known.ensures c.puts_keep_arrays.ensures

pub returns-clause-kept : goal.returns-clause-kept
returns-clause-kept c = counted_loops_are_kept c.places_tell_words.ensures c.steps_are_told.ensures c.counted_loops_of_runs.ensures

pub returns-clause-further_kept : goal.returns-clause-further_kept
returns-clause-further_kept c = further_loops_are_kept c.places_tell_words.ensures c.steps_are_told.ensures c.further_loops_of_runs.ensures

pub returns-clause-one : goal.returns-clause-one
returns-clause-one c = loop_lines_are_one

pub returns-clause-further_one : goal.returns-clause-further_one
returns-clause-further_one c = further_lines_are_one

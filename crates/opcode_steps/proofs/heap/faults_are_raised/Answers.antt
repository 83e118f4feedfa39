use Rattle.opcode_steps.proofs.HeapLemmas.Raising.{made_raises_run, faults_raised}
use Rattle.opcode_steps.proofs.heap.faults_are_raised.Goals as goal

pub returns-clause-runs : goal.returns-clause-runs
returns-clause-runs c = made_raises_run c.machine_follows_the_sketch.ensures c.opcodes_keep_their_costs.ensures

pub returns-clause-comes : goal.returns-clause-comes
returns-clause-comes c = faults_raised c.sketches_show.ensures c.frames_go_on.ensures.raises c.fixed_words_are_read.ensures.raise_list

use Rattle.loop_acts.proofs.WriterLemmas.{all_found, found_next, no_found}
use Rattle.loop_acts.proofs.writing.writers.Goals as goal

pub loop-node-init : goal.loop-node-init
loop-node-init c = no_found c.args.acts.now c.new-found.result.items c.new-found.ensures.items

pub loop-node-preserved : goal.loop-node-preserved
loop-node-preserved c = found_next c.args.acts.now c.args.nodes.now c.loop-node.node-index c.loop-node-test.true c.loop-node.found.items c.loop-node.invariant c.add_writer.new.found.items c.in_ok-add_writer.ensures

pub returns : goal.returns
returns c = all_found c.args.acts.now c.args.nodes.now c.loop-node.node-index c.loop-node.found.items c.loop-node-test.false c.loop-node.invariant

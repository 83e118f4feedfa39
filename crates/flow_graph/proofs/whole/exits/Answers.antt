use Rattle.std.proofs.Common.{[], arith}
use Rattle.flow_graph.specs.Edges.{IsExitAt}
use Rattle.flow_graph.proofs.Growing.{grows_start, grows_more}
use Rattle.flow_graph.proofs.Leaving.{all_exits}
use Rattle.flow_graph.proofs.whole.exits.Goals as goal

pub loop-node-init : goal.loop-node-init
loop-node-init c = grows_start [] c.new-exits.result.items (IsExitAt c.args.code.now c.args.flags.now) c.new-exits.ensures.items

pub loop-node-preserved : goal.loop-node-preserved
loop-node-preserved c = grows_more [] c.loop-node.exits.items c.add_exit.new.exits.items (IsExitAt c.args.code.now c.args.flags.now) c.loop-node.node c.loop-node.invariant c.in_ok-add_exit.ensures

pub returns : goal.returns
returns c =
    let past = c.loop-node-test.false in
    λ u. all_exits c.args.code.now c.args.flags.now c.loop-node.exits.items c.loop-node.node (omega arith) c.loop-node.invariant u

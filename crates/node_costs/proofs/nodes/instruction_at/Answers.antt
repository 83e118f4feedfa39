use Rattle.node_costs.proofs.Filling.{is_whole}
use Rattle.node_costs.proofs.nodes.instruction_at.Goals as goal

pub unreachable-requires : goal.unreachable-requires
unreachable-requires c = is_whole c.args.code.now c.args.pc _ (c.requires.whole c.args.pc c.requires.start) c.in-Err.ensures.exact

use Rattle.std.proofs.Common.{subst}
use Rattle.micro_flow.specs.declared.CostParams.{CostParams}
use Rattle.micro_flow.specs.Walk.{IsCost}
use Rattle.node_costs.proofs.Filling.{opcode_small}
use Rattle.node_costs.proofs.nodes.opcode_cost.Goals as goal

pub returns-clause-small : goal.returns-clause-small
returns-clause-small c =
    let Q : CostParams → Type 0 = λ p. IsCost c.args.op p c.cost.result in
    opcode_small c.costs_are_small.ensures.opcodes c.args.t c.args.pairs c.args.op c.cost.result c.requires.read c.requires.write c.ranges.pairs.fits (subst Q c.params_of.ensures c.cost.ensures)

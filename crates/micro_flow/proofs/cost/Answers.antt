use Rattle.std.proofs.Common.{sym, subst}
use Rattle.micro_flow.specs.Walk.{IsCost}
use Rattle.micro_flow.proofs.Rows.{opcode_costs}
use Rattle.micro_flow.proofs.cost.Goals as goal

pub returns : goal.returns
returns c = subst (λ n. IsCost c.args.op c.args.p n) (sym c.total.ensures) (opcode_costs c.args.p (record { r = c.requires.r; w = c.requires.w }) c.args.op c.cost_of.result c.cost_of.ensures)

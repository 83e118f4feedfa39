use Rattle.std.proofs.Common.{sym, subst}
use Rattle.micro_flow.specs.Walk.{IsRaiseCost}
use Rattle.micro_flow.proofs.Rows.{raise_costs}
use Rattle.micro_flow.proofs.raise_cost.Goals as goal

pub returns : goal.returns
returns c = subst (λ n. IsRaiseCost c.args.p n) (sym c.total.ensures) (raise_costs c.args.p (record { r = c.requires.r; w = c.requires.w }))

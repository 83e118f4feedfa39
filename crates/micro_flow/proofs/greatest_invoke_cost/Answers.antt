use Rattle.std.proofs.Common.{max, ap, ◌∙◌}
use Rattle.micro_flow.proofs.Invokes.{greatest_of_four}
use Rattle.micro_flow.proofs.greatest_invoke_cost.Goals as goal

pub returns : goal.returns
returns c =
    let three = c.max-2.ensures ∙ ap (λ n. max n c.cost-3.result) c.max.ensures in
    greatest_of_four c.args.p c.cost.result c.cost-2.result c.cost-3.result c.cost-4.result c.max-3.result c.cost.ensures c.cost-2.ensures c.cost-3.ensures c.cost-4.ensures (c.max-3.ensures ∙ ap (λ n. max n c.cost-4.result) three)

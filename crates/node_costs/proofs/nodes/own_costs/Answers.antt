use Rattle.node_costs.specs.Costs.{AreCodeCosts, AreOwnCosts}
use Rattle.bytecode_model.specs.Program.{Program}
use Rattle.method_flow.specs.Flow.{IsCodedOf}
use Rattle.std.proofs.Common.{◌≡◌, ℕ, ◌*◌, List, length, ap, ◌∙◌}
use Rattle.node_costs.proofs.Filling.{if_ok, own_of}
use Rattle.node_costs.proofs.nodes.own_costs.Goals as goal

pub returns-clause-costs : goal.returns-clause-costs
returns-clause-costs c =
    let k = c.args.m.now in
    let t = c.args.t in
    let raise = c.method_raise_cost-raise.result in
    let code = c.code.result.now in
    if_ok (λ v. AreCodeCosts code t raise v.items) (λ v. (P : Program) (n : ℕ) → IsCodedOf P n k → AreOwnCosts P t n k.code v.items) c.code_costs.result
    (λ v h P n of. own_of k t raise code v.items c.starts_follow_one_another.ensures c.code.ensures.code h c.method_raise_cost-raise.ensures.cost P n of)
    c.code_costs.ensures.costs

pub returns-clause-long : goal.returns-clause-long
returns-clause-long c =
    let k = c.args.m.now in
    let t = c.args.t in
    let raise = c.method_raise_cost-raise.result in
    let code = c.code.result.now in
    if_ok (λ v. AreCodeCosts code t raise v.items) (λ v. length v.items ≡ 2 * length k.code) c.code_costs.result
    (λ v h. h.long ∙ ap (λ (bytes : List ℕ). 2 * length bytes) c.code.ensures.code)
    c.code_costs.ensures.costs

use Rattle.std.proofs.Common.{◌≡◌, ℕ, ◌<◌, length, get_or, subst, ◌∙◌, arith}
use Rattle.node_costs.proofs.Filling.{AreFilled, filled_none, filled_more, filled_all, start_within}
use Rattle.node_costs.proofs.nodes.code_costs.Goals as goal

pub loop-pc-init : goal.loop-pc-init
loop-pc-init c =
    filled_none c.args.code.now c.args.t c.args.raise c.deref-pc-items.result.now c.in_ok-costs.costs.items (c.in_ok-costs.ensures.items_if_clones_equal (λ y h. h)) c.requires.raise

pub instruction_cost-requires-clause-inside : goal.instruction_cost-requires-clause-inside
instruction_cost-requires-clause-inside c =
    start_within c.args.code.now c.deref-pc-items.result.now c.loop-pc.pc-index (c.starts_follow_one_another.ensures c.args.code.now) (c.deref-pc-items.ensures.value ∙ c.in_ok-places.ensures) c.loop-pc-test.true

pub index_mut-requires : goal.index_mut-requires
index_mut-requires c =
    let at : get_or c.deref-pc-items.result.now c.loop-pc.pc-index 0 < length c.args.code.now =
    start_within c.args.code.now c.deref-pc-items.result.now c.loop-pc.pc-index (c.starts_follow_one_another.ensures c.args.code.now) (c.deref-pc-items.ensures.value ∙ c.in_ok-places.ensures) c.loop-pc-test.true in
    let long = c.loop-pc.invariant.long in
    omega arith

pub loop-pc-preserved : goal.loop-pc-preserved
loop-pc-preserved c =
    filled_more c.args.code.now c.args.t c.args.raise c.deref-pc-items.result.now c.loop-pc.pc-index c.loop-pc.costs.items c.instruction_cost.result c.loop-pc.invariant
    (start_within c.args.code.now c.deref-pc-items.result.now c.loop-pc.pc-index (c.starts_follow_one_another.ensures c.args.code.now) (c.deref-pc-items.ensures.value ∙ c.in_ok-places.ensures) c.loop-pc-test.true)
    c.instruction_cost.ensures.cost c.instruction_cost.ensures.small

pub returns-clause-costs : goal.returns-clause-costs
returns-clause-costs c =
    let past = c.loop-pc-test.false in
    let end = c.loop-pc.auto.pc-index-end in
    let all : c.loop-pc.pc-index ≡ length c.deref-pc-items.result.now = omega arith in
    let Q : ℕ → Type 0 = λ n. AreFilled c.args.code.now c.args.t c.args.raise c.deref-pc-items.result.now n c.loop-pc.costs.items in
    filled_all c.args.code.now c.args.t c.args.raise c.deref-pc-items.result.now c.loop-pc.costs.items (c.deref-pc-items.ensures.value ∙ c.in_ok-places.ensures) (subst Q all c.loop-pc.invariant)

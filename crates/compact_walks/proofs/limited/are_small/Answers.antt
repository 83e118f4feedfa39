use Rattle.std.proofs.Common.{ℕ, ◌<◌, List, get_or, take, sym, subst, arith}
use Rattle.std.proofs.lemmas.List.{take_more, take_all}
use Rattle.std.proofs.lemmas.List.Elements.{All-push}
use Rattle.compact_walks.specs.Limited.{cycles_limit, AreSmallAt}
use Rattle.compact_walks.proofs.limited.are_small.Goals as goal

pub loop-x-preserved : goal.loop-x-preserved
loop-x-preserved c =
    let nodes = c.args.nodes.now in
    let costs = c.args.costs.now in
    let i = c.loop-x.x-index in
    let lt = c.loop-x-test.true in
    let x = get_or nodes i 0 in
    let small = c.if-costs-x-ge-LIMIT.false in
    let here : get_or costs x 0 < cycles_limit = omega arith in
    subst (λ (us : List ℕ). AreSmallAt us costs) (sym (take_more nodes i 0 lt)) (All-push (λ (u : ℕ). get_or costs u 0 < cycles_limit) (take i nodes) x c.loop-x.invariant here)

pub returns : goal.returns
returns c = subst (λ (us : List ℕ). AreSmallAt us c.args.costs.now) (take_all c.loop-x.x-index c.args.nodes.now c.loop-x-test.false) c.loop-x.invariant

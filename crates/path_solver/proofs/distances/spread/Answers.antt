use Rattle.std.proofs.Common.{◌≡◌, ℕ, ◌+◌, ◌<◌, ◌≤◌, List, length, get_or, set, All, sym, subst, arith}
use Rattle.std.proofs.lemmas.List.{take_more, take_all}
use Rattle.std.proofs.lemmas.List.Elements.{All-get_or}
use Rattle.path_solver.specs.Distances.{distance_limit, limited, IsMost, cost_through, sources_at, AreSpread}
use Rattle.path_solver.proofs.Spreading.{spread_none, spread_more}
use Rattle.path_solver.proofs.distances.spread.Goals as goal

pub loop-u-init : goal.loop-u-init
loop-u-init c = spread_none (sources_at c.args.sources.now) c.args.costs.now c.args.fees.now c.args.dist.now c.requires.limited

pub greatest_end-arriving-requires-clause-within : goal.greatest_end-arriving-requires-clause-within
greatest_end-arriving-requires-clause-within c =
    let us = c.args.nodes.now in
    let i = c.loop-u.u-index in
    let u = get_or us i 0 in
    let n = length c.args.costs.now in
    let short : u < n = All-get_or (λ v. v < n) us i 0 c.loop-u-test.true c.requires.within in
    let all = c.requires.sources in
    let inside : u < length c.args.sources.now = omega arith in
    let P : List ℕ → Type 0 = λ ls. All (λ v. v < n) ls in
    subst P (sym c.of.ensures) (c.requires.ends u)

pub greatest_end-arriving-requires-clause-limited : goal.greatest_end-arriving-requires-clause-limited
greatest_end-arriving-requires-clause-limited c = c.loop-u.invariant.limited

pub loop-u-preserved : goal.loop-u-preserved
loop-u-preserved c =
    let src = sources_at c.args.sources.now in
    let all = c.requires.sources in
    let us = c.args.nodes.now in
    let costs = c.args.costs.now in
    let fees = c.args.fees.now in
    let old = c.args.dist.now in
    let now = c.loop-u.dist in
    let i = c.loop-u.u-index in
    let u = get_or us i 0 in
    let n = length costs in
    let x = c.limited_sum.result in
    let lt = c.loop-u-test.true in
    let short : u < n = All-get_or (λ v. v < n) us i 0 lt c.requires.within in
    let listed : u < length c.args.sources.now = omega arith in
    let long = c.loop-u.invariant.long in
    let same = c.requires.same in
    let inside : u < length now = omega arith in
    let is : x ≡ limited (c.greatest_end-arriving.result + get_or fees u 0) = c.limited_sum.ensures in
    let small : x ≤ distance_limit = omega arith in
    let P : List ℕ → Type 0 = λ ls. IsMost (cost_through costs now) ls c.greatest_end-arriving.result in
    let most = subst P c.of.ensures c.greatest_end-arriving.ensures.most in
    let Q : List ℕ → Type 0 = λ ls. AreSpread src costs fees ls old (set now u x) in
    subst Q (sym (take_more us i 0 lt)) (spread_more src costs fees us old now i lt c.requires.apart c.requires.forward c.loop-u.invariant x c.greatest_end-arriving.result inside small most is)

pub returns : goal.returns
returns c =
    let P : List ℕ → Type 0 = λ ls. AreSpread (sources_at c.args.sources.now) c.args.costs.now c.args.fees.now ls c.args.dist.now c.loop-u.dist in
    subst P (take_all c.loop-u.u-index c.args.nodes.now c.loop-u-test.false) c.loop-u.invariant

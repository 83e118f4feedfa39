use Rattle.std.proofs.Common.{◌≡◌, ℕ, ◌+◌, max, List, get_or, take, sym, ap, ◌∙◌, subst, arith}
use Rattle.std.proofs.lemmas.List.{take_more}
use Rattle.path_solver.specs.Distances.{limited, IsMost, cost_through}
use Rattle.path_solver.proofs.Most.{most_push}
use Rattle.path_solver.proofs.distances.greatest_end.Goals as goal

pub loop-u-preserved : goal.loop-u-preserved
loop-u-preserved c =
    let us = c.args.ends.now in
    let i = c.loop-u.u-index in
    let u = get_or us i 0 in
    let f = cost_through c.args.costs.now c.args.dist.now in
    let sum = c.limited_sum.ensures in
    let from = c.from-cost.ensures in
    let top = c.max-greatest.ensures in
    let is : c.max-greatest.result ≡ max (f u) c.loop-u.greatest = top ∙ ap (λ n. max n c.loop-u.greatest) (sum ∙ ap (λ n. limited (n + get_or c.args.dist.now u 0)) from) in
    let P : List ℕ → Type 0 = λ ls. IsMost f ls c.max-greatest.result in
    let small = c.loop-u.invariant.limited in
    record {
      most = subst P (sym (take_more us i 0 c.loop-u-test.true)) (most_push f (take i us) u c.loop-u.greatest c.max-greatest.result is c.loop-u.invariant.most);
      limited = omega arith;
    }

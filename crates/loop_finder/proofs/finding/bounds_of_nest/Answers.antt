use Rattle.std.proofs.Common.{ℕ, ◌+◌, ◌<◌, ◌≤◌, List, length, sym, subst}
use Rattle.std.specs.Prelude.{slice_index}
use Rattle.loop_nest.specs.Nest.{NaturalLoop}
use Rattle.loop_finder.proofs.Nests.{AreFirst, loop_more, heads_rise, all_loops}
use Rattle.loop_finder.proofs.finding.bounds_of_nest.Goals as goal

pub loop-index-preserved : goal.loop-index-preserved
loop-index-preserved c d moved nest =
    let b = c.args.body.now in
    let node = slice_index c.args.nodes.now in
    let ls = c.args.nest.now in
    let i = c.loop-index.index in
    let lt = subst (λ (ks : List NaturalLoop). i < length ks) c.loops-loops.ensures c.loop-index-test.true in
    let more = loop_more b node ls i c.loop-index.bounds.items (c.loop-index.invariant d moved nest) (heads_rise b d node ls moved nest i lt) c.in_ok-bound.bound (c.in_ok-bound.ensures d moved nest) in
    subst (λ (bounds : List (ℕ × ℕ)). AreFirst b node ls (i + 1) bounds) (sym c.in_ok-add_bound.ensures) more

pub returns : goal.returns
returns c d moved nest =
    let b = c.args.body.now in
    let node = slice_index c.args.nodes.now in
    let ls = c.args.nest.now in
    let i = c.loop-index.index in
    let done = subst (λ (ks : List NaturalLoop). length ks ≤ i) c.loops-loops.ensures c.loop-index-test.false in
    all_loops b d node ls moved nest i c.loop-index.bounds.items done (c.loop-index.invariant d moved nest)

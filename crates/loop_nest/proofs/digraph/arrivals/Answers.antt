use Rattle.std.proofs.Common.{◌≡◌, ℕ, ◌<◌, ◌≤◌, eqb, length, get_or, take, count_by, ◌∙◌, arith}
use Rattle.std.proofs.lemmas.List.{get_or_default, length-take}
use Rattle.std.proofs.lemmas.List.Elements.{All-get_or}
use Rattle.std.proofs.lemmas.List.Sums.{count_by-le-length}
use Rattle.loop_nest.proofs.digraph.arrivals.Goals as goal

pub overflow_add-index_mut : goal.overflow_add-index_mut
overflow_add-index_mut c =
    let es = c.args.edges.now in
    let i = c.loop-edge.edge-index in
    let counts = c.loop-edge.counts.items in
    let v = (get_or es i (0, 0)).1 in
    let below = c.loop-edge-test.true in
    let lt : v < c.args.nodes = All-get_or (λ (e : ℕ × ℕ). e.1 < c.args.nodes) es i (0, 0) below c.requires in
    let long = c.loop-edge.invariant.long in
    let inside : v < length counts = omega arith in
    let is : get_or counts v 0 ≡ count_by (λ (e : ℕ × ℕ). eqb e.1 v) (take i es) = c.loop-edge.invariant.each v in
    let few = count_by-le-length (λ (e : ℕ × ℕ). eqb e.1 v) (take i es) in
    let same : c.index_mut.result.now ≡ count_by (λ (e : ℕ × ℕ). eqb e.1 v) (take i es) = c.index_mut.ensures.value ∙ get_or_default counts v c.index_mut.result.now 0 inside ∙ is in
    let cut : length (take i es) ≤ i = omega (arith, length-take i es) in
    let most : c.index_mut.result.now ≤ i = omega arith in
    omega arith

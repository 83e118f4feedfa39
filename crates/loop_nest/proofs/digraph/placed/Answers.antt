use Rattle.std.proofs.Common.{◌≡◌, ℕ, ◌+◌, ◌<◌, List, get_or, set, sym, ◌∙◌, subst, arith}
use Rattle.std.proofs.lemmas.List.{get_or_default}
use Rattle.std.proofs.lemmas.List.Elements.{All-get_or}
use Rattle.loop_nest.specs.Grouping.{ArePlaced}
use Rattle.loop_nest.proofs.Grouping.{place_inside, placed_more, placed_start, starts_in, placed_ends}
use Rattle.loop_nest.proofs.digraph.placed.Goals as goal

pub loop-edge-init : goal.loop-edge-init
loop-edge-init c =
    let ok = c.in_ok-placed.placed.ok in
    let len = c.in_ok-placed.ensures.len in
    let P : List ℕ → Type 0 = λ ls. ArePlaced c.args.edges.now c.args.nodes 0 ls c.in_ok-placed.placed.items in
    subst P (sym c.in_ok-next.ensures.items) (placed_start c.args.edges.now c.args.nodes c.args.starts.now c.in_ok-placed.placed.items c.requires.starts (omega (arith, ok.0)))

pub index_mut-requires : goal.index_mut-requires
index_mut-requires c =
    let es = c.args.edges.now in
    let n = c.args.nodes in
    let k = c.loop-edge.edge-index in
    let lt = c.loop-edge-test.true in
    let inv = c.loop-edge.invariant in
    let below : (get_or es k (0, 0)).1 < n = All-get_or (λ (e : ℕ × ℕ). e.1 < n) es k (0, 0) lt c.requires.within in
    let inside = place_inside es n k c.loop-edge.next.items c.loop-edge.placed.items lt below inv in
    let long = inv.places_long in
    let at = c.index-place.ensures ∙ get_or_default c.loop-edge.next.items (get_or es k (0, 0)).1 c.index-place.result.now 0 (omega arith) in
    let ok = c.loop-edge.placed.ok in
    omega (arith, ok.0)

pub overflow_add-place : goal.overflow_add-place
overflow_add-place c =
    let es = c.args.edges.now in
    let n = c.args.nodes in
    let k = c.loop-edge.edge-index in
    let lt = c.loop-edge-test.true in
    let inv = c.loop-edge.invariant in
    let below : (get_or es k (0, 0)).1 < n = All-get_or (λ (e : ℕ × ℕ). e.1 < n) es k (0, 0) lt c.requires.within in
    let inside = place_inside es n k c.loop-edge.next.items c.loop-edge.placed.items lt below inv in
    let long = inv.places_long in
    let at = c.index-place.ensures ∙ get_or_default c.loop-edge.next.items (get_or es k (0, 0)).1 c.index-place.result.now 0 (omega arith) in
    let ok = c.loop-edge.placed.ok in
    let fits = c.loop-edge.placed.small in
    omega (arith, ok.0)

pub loop-edge-preserved : goal.loop-edge-preserved
loop-edge-preserved c =
    let es = c.args.edges.now in
    let n = c.args.nodes in
    let k = c.loop-edge.edge-index in
    let lt = c.loop-edge-test.true in
    let inv = c.loop-edge.invariant in
    let next = c.loop-edge.next.items in
    let placed = c.loop-edge.placed.items in
    let e = get_or es k (0, 0) in
    let below : e.1 < n = All-get_or (λ (e : ℕ × ℕ). e.1 < n) es k (0, 0) lt c.requires.within in
    let long = inv.places_long in
    let at : c.index-place.result.now ≡ get_or next e.1 0 = c.index-place.ensures ∙ get_or_default next e.1 c.index-place.result.now 0 (omega arith) in
    let P : ℕ → Type 0 = λ z. ArePlaced es n (k + 1) (set next e.1 (z + 1)) (set placed z e.0) in
    subst P (sym at) (placed_more es n k next placed lt below inv)

pub returns-clause-starts : goal.returns-clause-starts
returns-clause-starts c = starts_in c.args.edges.now c.args.nodes c.args.starts.now c.loop-edge.placed.items c.requires.starts c.loop-edge.invariant.long

pub returns-clause-lists : goal.returns-clause-lists
returns-clause-lists c = placed_ends c.args.edges.now c.args.nodes c.loop-edge.edge-index c.args.starts.now c.loop-edge.next.items c.loop-edge.placed.items c.loop-edge-test.false c.requires.starts c.loop-edge.invariant

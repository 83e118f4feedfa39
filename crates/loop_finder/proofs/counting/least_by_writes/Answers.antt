use Rattle.std.proofs.Common.{ℕ, ◌<◌, ◌≤◌, List, length, get_or, sym, subst}
use Rattle.loop_finder.specs.Counting.{CountsByNode, IsLookedAt}
use Rattle.loop_finder.proofs.Known.{so_far_none, so_far_more, so_far_all}
use Rattle.loop_finder.proofs.counting.least_by_writes.Goals as goal

pub look_at-requires : goal.look_at-requires
look_at-requires c =
    let g = c.args.body.now.graph in
    let i = c.loop-node.node-index in
    let lt = subst (λ (us : List ℕ). i < length us) c.nodes-node-items.ensures c.loop-node-test.true in
    record { sized = c.requires.sized; writers = c.requires.writers; node = subst (λ (us : List ℕ). get_or us i 0 < g.nodes) (sym c.nodes-node-items.ensures) (c.requires.sized.nodes i 0 lt) }

pub loop-node-init : goal.loop-node-init
loop-node-init c marks before =
    let first = c.in_ok-known.ensures marks before in
    (so_far_none c.args.body.now c.args.marks.now.header c.in_ok-known.known.least first.0, first.1)

pub loop-node-preserved : goal.loop-node-preserved
loop-node-preserved c marks before =
    let b = c.args.body.now in
    let h = c.args.marks.now.header in
    let us = c.args.marks.now.nodes in
    let i = c.loop-node.node-index in
    let old = c.loop-node.known in
    let new = c.look_at.new.known in
    let lt = subst (λ (vs : List ℕ). i < length vs) c.nodes-node-items.ensures c.loop-node-test.true in
    let here = subst (λ (vs : List ℕ). IsLookedAt b.graph h (CountsByNode b h (get_or vs i 0)) old new) c.nodes-node-items.ensures (c.in_ok-look_at.ensures marks before) in
    let so_far = c.loop-node.invariant marks before in
    (so_far_more b h us i old.least new.least lt so_far.0 (here.least so_far.1), here.rest so_far.1)

pub returns : goal.returns
returns c marks before =
    let i = c.loop-node.node-index in
    let done = subst (λ (us : List ℕ). length us ≤ i) c.nodes-node-items.ensures c.loop-node-test.false in
    so_far_all c.args.body.now c.args.marks.now marks i c.loop-node.known.least done (c.loop-node.invariant marks before).0

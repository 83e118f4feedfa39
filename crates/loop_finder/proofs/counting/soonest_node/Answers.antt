use Rattle.std.proofs.Common.{ℕ, ◌<◌, List, length, get_or, sym, subst}
use Rattle.loop_finder.proofs.counting.soonest_node.Goals as goal

pub soonest_of_node-number-requires : goal.soonest_of_node-number-requires
soonest_of_node-number-requires c =
    let g = c.args.body.now.graph in
    let i = c.loop-node.node-index in
    let lt = subst (λ (us : List ℕ). i < length us) c.nodes-node-items.ensures c.loop-node-test.true in
    record { sized = c.requires.sized; writers = c.requires.writers; node = subst (λ (us : List ℕ). get_or us i 0 < g.nodes) (sym c.nodes-node-items.ensures) (c.requires.sized.nodes i 0 lt) }

use Rattle.std.proofs.Common.{◌≡◌, ℕ, ◌*◌, get_or, sym, ◌∙◌, below_more}
use Rattle.std.proofs.lemmas.Bool.{false≢true}
use Rattle.memory_rules.specs.Heap.{PlaceMakesObjects}
use Rattle.memory_bound.proofs.Sited.{node_start, none_does}
use Rattle.memory_bound.proofs.making.some_node_makes.Goals as goal

pub loop-node-preserved : goal.loop-node-preserved
loop-node-preserved c = λ P flow sites starts known.
    let ns = c.args.nodes.now in
    let m = c.args.m in
    let i = c.loop-node.node-index in
    let both = c.node_makes.ensures P flow sites (node_start P m ns starts i c.loop-node-test.true) known in
    below_more (λ k. (p : ℕ) → 2 * p ≡ get_or ns k 0 → PlaceMakesObjects P m p → ⊥) i (c.loop-node.invariant P flow sites starts known)
    (λ p e makes. false≢true (sym c.if-node_makes.false ∙ both.1 (p, e, makes)))

pub returns : goal.returns
returns c = λ P flow sites starts known.
    let ns = c.args.nodes.now in
    let m = c.args.m in
    (λ yes. absurd (false≢true yes), λ r. absurd (none_does ns c.loop-node.node-index (PlaceMakesObjects P m) c.loop-node-test.false (c.loop-node.invariant P flow sites starts known) r.0 r.1 r.2))

use Rattle.std.proofs.Common.{◌≡◌, ℕ, ◌*◌, Bool, refl, subst, below_more, get_or}
use Rattle.memory_bound.specs.Setting.{lengths_in}
use Rattle.memory_bound.specs.Found.{HasArrayLength}
use Rattle.memory_bound.specs.Lengths.{TellsNode}
use Rattle.memory_bound.proofs.Lacking.{node_on, first_here, nowhere}
use Rattle.memory_bound.proofs.lengths.first_unlimited.Goals as goal

pub returns-then-is_unlimited : goal.returns-then-is_unlimited
returns-then-is_unlimited c = λ P flow sites on.
    let l = lengths_in c.args.task.now in
    let m = c.args.m in
    let ns = c.args.nodes.now in
    let i = c.loop-node.node-index in
    let u = get_or ns i 0 in
    let lt = c.loop-node-test.true in
    let tells = c.is_unlimited.ensures P flow sites (node_on P m ns on i lt) in
    first_here P l m ns i (c.loop-node.invariant P flow sites on) c.requires.rising lt _ u refl refl (subst (λ (b : Bool). TellsNode P l m u b) c.if-is_unlimited.true tells)

pub loop-node-preserved : goal.loop-node-preserved
loop-node-preserved c = λ P flow sites on.
    let l = lengths_in c.args.task.now in
    let m = c.args.m in
    let ns = c.args.nodes.now in
    let i = c.loop-node.node-index in
    let tells = c.is_unlimited.ensures P flow sites (node_on P m ns on i c.loop-node-test.true) in
    below_more (λ k. (p : ℕ) → 2 * p ≡ get_or ns k 0 → HasArrayLength P l m p) i (c.loop-node.invariant P flow sites on)
    (subst (λ (b : Bool). TellsNode P l m (get_or ns i 0) b) c.if-is_unlimited.false tells)

pub returns : goal.returns
returns c = λ P flow sites on.
    nowhere P (lengths_in c.args.task.now) c.args.m c.args.nodes.now c.loop-node.node-index (c.loop-node.invariant P flow sites on) c.loop-node-test.false

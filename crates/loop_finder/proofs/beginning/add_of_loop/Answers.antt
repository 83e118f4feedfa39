use Rattle.std.proofs.Common.{◌≡◌, ℕ, List, sym, ap, ◌∙◌, subst}
use Rattle.loop_acts.specs.declared.effects.Act.{Act}
use Rattle.loop_acts.specs.Writing.{AreWriters}
use Rattle.loop_finder.specs.Counting.{Body}
use Rattle.loop_finder.proofs.Adding.{among_all, among_more, among_none}
use Rattle.loop_finder.proofs.beginning.add_of_loop.Goals as goal

pub loop-node-init : goal.loop-node-init
loop-node-init c P known m of are =
    among_none P known m c.args.body.now.graph c.args.marks.now.header c.args.body.now c.deref-node-items.result.now c.args.found.now.items

pub loop-node-preserved : goal.loop-node-preserved
loop-node-preserved c P known m of are =
    let b = c.args.body.now in
    let h = c.args.marks.now.header in
    let acts : c.deref.result.now ≡ b.acts = c.deref.ensures.value ∙ ap (λ (x : Body). x.acts) c.body.view_is in
    let ws = c.deref-node-items.result.now in
    let found = c.in_ok-writers.writers.items in
    let nodes = c.args.marks.now.nodes in
    let writers =
    subst (λ (us : List ℕ). AreWriters b.acts nodes us) (sym c.deref-in-loop-node.ensures.value)
    (subst (λ (us : List ℕ). AreWriters b.acts us found) c.nodes.ensures (subst (λ (xs : List Act). AreWriters xs c.nodes.result.now found) acts c.in_ok-writers.ensures)) in
    among_more P known m b.graph h b ws c.loop-node.node-index c.args.found.now.items c.loop-node.found.items c.add_stepped.new.found.items c.loop-node-test.true (c.loop-node.invariant P known m of are)
    (c.in_ok-add_stepped.ensures P known m of are writers)

pub returns : goal.returns
returns c P known m of are =
    let b = c.args.body.now in
    let acts : c.deref.result.now ≡ b.acts = c.deref.ensures.value ∙ ap (λ (x : Body). x.acts) c.body.view_is in
    let ws = c.deref-node-items.result.now in
    let writers =
    subst (λ (us : List ℕ). AreWriters b.acts c.args.marks.now.nodes us) (sym c.deref-node-items.ensures.value)
    (subst (λ (us : List ℕ). AreWriters b.acts us c.in_ok-writers.writers.items) c.nodes.ensures (subst (λ (xs : List Act). AreWriters xs c.nodes.result.now c.in_ok-writers.writers.items) acts c.in_ok-writers.ensures)) in
    among_all P known m b c.args.marks.now are ws writers c.loop-node.node-index c.loop-node-test.false c.args.found.now.items c.loop-node.found.items (c.loop-node.invariant P known m of are)

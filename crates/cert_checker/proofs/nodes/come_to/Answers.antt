use Rattle.std.proofs.Common.{◌≡◌, ℕ, ◌<◌, List, length, get_or, replicate, false, refl, sym, ap, ◌∙◌, subst}
use Rattle.cert_checker.proofs.Reaching.{AreTargets, targets_none, targets_more, targets_all}
use Rattle.cert_checker.proofs.nodes.come_to.Goals as goal

pub loop-edge-init : goal.loop-edge-init
loop-edge-init c =
    let g = c.args.g.now in
    let es = c.edges-edge-items.result.now in
    let n = c.nodes.ensures.nodes in
    let is : c.in_ok-flags.flags.items ≡ replicate c.nodes.result false = c.in_ok-flags.ensures.items_if_clones_equal (λ y h. h) in
    targets_none g.nodes es c.in_ok-flags.flags.items c.nodes.ensures.valid.entry (is ∙ ap (λ (k : ℕ). replicate k false) n)

pub loop-edge-preserved : goal.loop-edge-preserved
loop-edge-preserved c =
    let g = c.args.g.now in
    let es = c.edges-edge-items.result.now in
    let i = c.loop-edge.edge-index in
    let lt = c.loop-edge-test.true in
    let same = c.edges-edge-items.ensures.edges in
    let L : List (ℕ × ℕ) → Type 0 = λ xs. i < length xs in
    let G : List (ℕ × ℕ) → Type 0 = λ xs. (get_or xs i (0, 0)).1 < g.nodes in
    let below = subst G (sym same) (c.nodes.ensures.valid.edges.ends i (0, 0) (subst L same lt)).1 in
    targets_more g.nodes es i (get_or es i (0, 0)) (0, 0) c.loop-edge.flags.items lt refl below c.loop-edge.invariant

pub returns : goal.returns
returns c =
    let g = c.args.g.now in
    let es = c.edges-edge-items.result.now in
    let h = targets_all g.nodes es c.loop-edge.edge-index c.loop-edge.flags.items c.loop-edge-test.false c.loop-edge.invariant in
    let T : List (ℕ × ℕ) → Type 0 = λ xs. AreTargets g.nodes xs c.loop-edge.flags.items in
    let t = subst T c.edges-edge-items.ensures.edges h in
    record { long = t.long; each = t.each }

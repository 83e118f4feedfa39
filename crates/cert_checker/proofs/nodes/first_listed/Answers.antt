use Rattle.std.proofs.Common.{◌≡◌, ℕ, ℤ, pos, false, sym, arith}
use Rattle.section_check.proofs.Rising.{listed_rise, is_listed, listed_is}
use Rattle.flow_graph.specs.Reach.{flag_at}
use Rattle.cert_checker.proofs.Firsts.{least_at}
use Rattle.cert_checker.proofs.nodes.first_listed.Goals as goal

pub returns-then-not-is_flagged : goal.returns-then-not-is_flagged
returns-then-not-is_flagged c =
    let ps = c.args.nodes.now in
    let i = c.loop-node.node-index in
    let here = c.loop-node-test.true in (
      (is_listed ps i here, sym c.if-not-is_flagged.ensures),
      λ u less b.
          let at = listed_is ps u b.0 in
          least_at (λ (p : ℕ × ℤ). p.0) ps (λ x. flag_at c.args.flags.now x ≡ false) i (0, pos 0) (listed_rise ps c.requires) here c.loop-node.invariant at.0 u at.1 at.2 less b.1,
    )

pub returns : goal.returns
returns c =
    let ps = c.args.nodes.now in
    let end = c.loop-node-test.false in
    λ u b.
    let at = listed_is ps u b.0 in
    let below = at.1 in
    let same = at.2 in
    c.loop-node.invariant at.0 (omega arith) (rw same b.1)

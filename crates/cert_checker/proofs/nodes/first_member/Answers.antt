use Rattle.std.proofs.Common.{◌≡◌, ℕ, false, sym, ◌∙◌, arith}
use Rattle.std.proofs.lemmas.List.{get_or_default}
use Rattle.std.proofs.lemmas.List.Elements.{Contains-get_or}
use Rattle.section_check.proofs.Rising.{numbers_rise}
use Rattle.flow_graph.specs.Reach.{flag_at}
use Rattle.cert_checker.proofs.Firsts.{least_at}
use Rattle.cert_checker.proofs.nodes.first_member.Goals as goal

pub returns-then-not-is_flagged : goal.returns-then-not-is_flagged
returns-then-not-is_flagged c =
    let xs = c.args.members.now in
    let i = c.loop-u.u-index in
    let here = c.loop-u-test.true in (
      (Contains-get_or xs i 0 here, sym c.if-not-is_flagged.ensures),
      λ u less b. least_at (λ (x : ℕ). x) xs (λ x. flag_at c.args.flags.now x ≡ false) i 0 (numbers_rise xs c.requires) here c.loop-u.invariant b.0.0 u b.0.1 (get_or_default xs b.0.0 0 u b.0.1 ∙ b.0.2) less b.1,
    )

pub returns : goal.returns
returns c =
    let xs = c.args.members.now in
    let end = c.loop-u-test.false in
    λ u b.
    let below = b.0.1 in
    let same = get_or_default xs b.0.0 0 u b.0.1 ∙ b.0.2 in
    c.loop-u.invariant b.0.0 (omega arith) (rw same b.1)

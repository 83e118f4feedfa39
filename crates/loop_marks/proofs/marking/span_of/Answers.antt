use Rattle.std.proofs.Common.{ℕ, ◌<◌, ◌≤◌, List, All, subst, arith}
use Rattle.std.proofs.lemmas.List.{take_all}
use Rattle.loop_marks.proofs.Flagging.{between_more}
use Rattle.loop_marks.proofs.marking.span_of.Goals as goal

pub loop-other-preserved : goal.loop-other-preserved
loop-other-preserved c =
    let us = c.args.others.now in
    let inv = c.loop-other.invariant in
    let low = inv.0 in
    let high = inv.1 in
    let least = c.min-first.ensures in
    let most = c.max-end.ensures in (
      omega arith,
      omega arith,
      between_more us c.loop-other.other-index c.loop-other.first c.loop-other.end c.min-first.result c.max-end.result c.loop-other-test.true inv.2 (omega arith) (omega arith) (omega arith) (omega arith),
    )

pub returns-clause-others : goal.returns-clause-others
returns-clause-others c =
    let us = c.args.others.now in
    subst (λ (vs : List ℕ). All (λ u. (c.loop-other.first ≤ u) × (u < c.loop-other.end)) vs) (take_all c.loop-other.other-index us c.loop-other-test.false) c.loop-other.invariant.2

use Rattle.std.proofs.Common.{ℕ, List, All, subst}
use Rattle.std.specs.Prelude.{slice_index}
use Rattle.std.proofs.lemmas.List.{take_all}
use Rattle.std.proofs.lemmas.List.Elements.{All-more}
use Rattle.loop_acts.specs.Writing.{IsIdle}
use Rattle.loop_finder.proofs.finding.are_idle.Goals as goal

pub loop-u-preserved : goal.loop-u-preserved
loop-u-preserved c =
    let us = c.args.members.now in
    let i = c.loop-u.u-index in
    All-more (λ u. IsIdle c.args.acts.now (slice_index c.args.nodes.now u)) us i 0 c.loop-u-test.true c.loop-u.invariant (c.is_idle.ensures c.if-not-is_idle.false)

pub returns : goal.returns
returns c _ =
    let us = c.args.members.now in
    subst (λ (vs : List ℕ). All (λ u. IsIdle c.args.acts.now (slice_index c.args.nodes.now u)) vs) (take_all c.loop-u.u-index us c.loop-u-test.false) c.loop-u.invariant

use Rattle.std.proofs.Common.{ℕ, ◌+◌, Contains, take, sym, subst}
use Rattle.std.specs.Prelude.{slice_index}
use Rattle.memory_bound.specs.Stacks.{IsGreatestAmong}
use Rattle.memory_bound.proofs.Deepest.{one_more}
use Rattle.memory_bound.proofs.stacks.greatest_at.Goals as goal

pub loop-t-preserved : goal.loop-t-preserved
loop-t-preserved c =
    let targets = c.args.targets.now in
    let stacks = c.args.stacks.now in
    let i = c.loop-t.t-index in
    subst (λ (n : ℕ). IsGreatestAmong (Contains (take (i + 1) targets)) (slice_index stacks) n) (sym c.max-greatest.ensures)
    (one_more targets stacks i c.loop-t.greatest c.loop-t-test.true c.loop-t.invariant)

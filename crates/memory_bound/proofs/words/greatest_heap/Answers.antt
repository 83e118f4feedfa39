use Rattle.std.proofs.Common.{ℕ, ◌+◌, take, sym, subst}
use Rattle.memory_bound.specs.Words.{IsGreatestOf}
use Rattle.memory_bound.proofs.Wording.{one_more_method}
use Rattle.memory_bound.proofs.words.greatest_heap.Goals as goal

pub loop-t-preserved : goal.loop-t-preserved
loop-t-preserved c =
    let table = c.args.table.now in
    let ts = c.args.targets.now in
    let i = c.loop-t.t-index in
    subst (λ (w : ℕ). IsGreatestOf table (take (i + 1) ts) w) (sym c.max-greatest.ensures)
    (one_more_method table ts i c.loop-t.greatest c.in_ok-table.field-0 c.loop-t-test.true c.loop-t.invariant c.in_ok-table.was)

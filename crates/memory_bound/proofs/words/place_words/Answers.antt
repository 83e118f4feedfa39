use Rattle.std.proofs.Common.{ℕ, sym, subst}
use Rattle.method_flow.specs.Nodes.{At}
use Rattle.memory_rules.specs.Heap.{OfNode, IsMostMade}
use Rattle.memory_bound.specs.Setting.{bounds_in, lengths_in}
use Rattle.memory_bound.proofs.NodeMost.{called_exceeds, place_most}
use Rattle.memory_bound.proofs.words.place_words.Goals as goal

pub returns-in_err-called : goal.returns-in_err-called
returns-in_err-called c = λ P flow sites start known.
    let s = c.args.task.now in
    rw c.from_residual.ensures (called_exceeds P (bounds_in s) (lengths_in s) c.args.m c.args.place start c.args.table.now known c.targets_at.result.now (c.targets_at.ensures.targets P flow sites start) c.in_err-called.ensures)

pub returns : goal.returns
returns c = λ P flow sites start known.
    let s = c.args.task.now in
    subst (λ (w : ℕ). IsMostMade P (bounds_in s) (lengths_in s) (OfNode c.args.m (At c.args.place)) w) (sym c.max.ensures)
    (place_most P (bounds_in s) (lengths_in s) c.args.m c.args.place start c.args.table.now known c.targets_at.result.now (c.targets_at.ensures.targets P flow sites start) c.in_ok-called.called c.site_words.result c.in_ok-called.ensures (c.site_words.ensures P flow sites))

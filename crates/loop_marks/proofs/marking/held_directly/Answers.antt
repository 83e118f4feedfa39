use Rattle.std.proofs.Common.{◌≡◌, ℕ, ◌<◌, List, length, get_or, ap, ◌∙◌, subst}
use Rattle.loop_nest.specs.Nest.{NaturalLoop}
use Rattle.loop_marks.proofs.Holding.{held_next}
use Rattle.loop_marks.proofs.marking.held_directly.Goals as goal

pub loop-l-preserved : goal.loop-l-preserved
loop-l-preserved c =
    let ls = c.args.nest.now in
    let n = c.loop-l.l-index in
    let l = c.l-item.result in
    let node : ℕ → ℕ = λ (u : ℕ). get_or c.args.nodes.now u 0 in
    let is : l ≡ get_or ls n l = c.l-item.is ∙ ap (λ (xs : List NaturalLoop). get_or xs n l) c.loops-l-items.ensures in
    let lt : n < length ls = subst (λ (xs : List NaturalLoop). n < length xs) c.loops-l-items.ensures c.loop-l-test.true in
    (c.mark_within.ensures.first ∙ c.loop-l.invariant.0, held_next node ls c.args.index n c.args.members.now.items c.loop-l.marks.items c.mark_within.new.marks.items l lt is c.loop-l.invariant.1 c.mark_within.ensures.marked c.mark_within.ensures.kept)

use Rattle.std.proofs.Common.{ℕ, ◌+◌, ◌<◌, ◌≤◌, ◌++◌, ◌∷◌, [], true, false, Bool, List, length, get_or, set, replicate, take, sym, ap, ◌∙◌, subst}
use Rattle.std.proofs.lemmas.List.{length-replicate, take_more}
use Rattle.std.proofs.lemmas.List.Elements.{All-get_or}
use Rattle.compact_walks.specs.Charging.{AreMarked}
use Rattle.compact_walks.proofs.Marks.{marked_more}
use Rattle.loop_marks.specs.Flags.{Flags}
use Rattle.loop_marks.proofs.marking.member_flags.Goals as goal

pub loop-node-preserved : goal.loop-node-preserved
loop-node-preserved c =
    let us = c.args.nodes.now in
    let i = c.loop-node.node-index in
    let lt = c.loop-node-test.true in
    let u = get_or us i 0 in
    let none = replicate c.span_of-first.result.1 false in
    let now = c.loop-node.flags.items in
    let w = All-get_or (λ (u : ℕ). (c.span_of-first.result.0 ≤ u) × (u < c.span_of-first.result.1)) us i 0 lt c.span_of-first.ensures.others in
    let small : u < length now = subst (λ (n : ℕ). u < n) (sym (c.loop-node.invariant.1.long ∙ length-replicate c.span_of-first.result.1 false)) w.1 in
    let next : AreMarked (take i us ++ u ∷ []) none (set now u true) = marked_more (take i us) none now u c.loop-node.invariant.1 small in (
      ap (λ (f : Flags). f.first) c.mark.ensures ∙ c.loop-node.invariant.0,
      subst (λ (fs : List Bool). AreMarked (take (i + 1) us) none fs) (sym (ap (λ (f : Flags). f.items) c.mark.ensures)) (subst (λ (vs : List ℕ). AreMarked vs none (set now u true)) (sym (take_more us i 0 lt)) next),
    )

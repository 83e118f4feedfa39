-- The test of each part, and that no back edge is reached without the node.
use Rattle.std.proofs.Common.{◌≡◌, ℕ, true, false, not, sym, ap, ◌∙◌}
use Rattle.std.proofs.lemmas.Bool.{both_ways}
use Rattle.lists.specs.Tests.{not_true}
use Rattle.loop_nest.specs.Digraph.{sources_of}
use Rattle.loop_marks.specs.Reach.{flag_at}
use Rattle.loop_marks.proofs.Turning.{is_turn, turn_inner, turn_comes, at_edges, from_edges}
use Rattle.loop_marks.proofs.iterations.is_on_each_iteration.Goals as goal
use Rattle.loop_marks.proofs.iterations.is_on_each_iteration.Goals.{then-has, else-has}

pub returns-then-not-is_inner : goal.returns-then-not-is_inner
returns-then-not-is_inner c are is =
    let g = c.args.routes.now in
    let k = c.args.marks.now in
    let x = c.args.node in
    let fs = c.args.without.now.items in
    let P : ℕ → Type 0 = λ u. flag_at fs u ≡ false in
    let are_sources : c.sources.result.now ≡ sources_of g.edges k.header = c.sources.ensures.sources ∙ ap (λ (n : ℕ). sources_of g.edges n) c.header.ensures in
    let member : flag_at k.members x ≡ true = elim c.if-has.branch [
      | then-has w ↦ ap (flag_at k.members) (sym c.from-node.ensures) ∙ (sym c.has.ensures ∙ w.if-has.true)
      | else-has w ↦ absurd (both_ways c.if-has.value (w.value-is ∙ w.if-has.false) c.if-not-is_inner.true)
    ] in
    let outer : flag_at k.inner x ≡ false = elim c.if-has.branch [
      | then-has w ↦ ap (flag_at k.inner) (sym c.from-node.ensures) ∙ (sym w.is_inner.ensures ∙ not_true w.is_inner.result (sym w.value-is ∙ c.if-not-is_inner.true))
      | else-has w ↦ absurd (both_ways c.if-has.value (w.value-is ∙ w.if-has.false) c.if-not-is_inner.true)
    ] in (
      λ t. is_turn g k x fs are is member outer (at_edges P g k.header c.sources.result.now are_sources (c.none_flagged.ensures.0 t)),
      λ turn. c.none_flagged.ensures.1 (from_edges P g k.header c.sources.result.now are_sources (turn_comes g k x fs are is c.loops_are_entered_at_headers.ensures.back turn)),
    )

pub returns-else-not-is_inner : goal.returns-else-not-is_inner
returns-else-not-is_inner c are is =
    let g = c.args.routes.now in
    let k = c.args.marks.now in
    let x = c.args.node in
    let fs = c.args.without.now.items in (
      λ t. absurd (both_ways c.if-has.value c.if-not-is_inner.false t),
      λ turn. elim c.if-has.branch [
        | then-has w ↦ w.value-is ∙ ap not (w.is_inner.ensures ∙ (ap (flag_at k.inner) c.from-node.ensures ∙ turn_inner g k x fs are is turn))
        | else-has w ↦ absurd (both_ways c.has.result w.if-has.false (c.has.ensures ∙ (ap (flag_at k.members) c.from-node.ensures ∙ (are.members x).1 turn.member)))
      ],
    )

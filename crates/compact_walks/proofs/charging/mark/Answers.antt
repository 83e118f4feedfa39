use Rattle.std.proofs.Common.{◌≡◌, ℕ, ◌+◌, ◌<◌, List, [], ◌∷◌, ◌++◌, length, map, get_or, set, true, take, sym, ap, ◌∙◌, subst, arith}
use Rattle.std.proofs.lemmas.List.{take_more, map-append}
use Rattle.std.proofs.lemmas.List.Elements.{All-get_or}
use Rattle.compact_walks.specs.Charging.{AreMarked}
use Rattle.compact_walks.proofs.Marks.{marked_more}
use Rattle.compact_walks.proofs.charging.mark.Goals as goal

pub loop-u-preserved : goal.loop-u-preserved
loop-u-preserved c =
    let us = c.args.members.now in
    let nodes = c.args.nodes.now in
    let i = c.loop-u.u-index in
    let lt = c.loop-u-test.true in
    let now = c.loop-u.marks in
    let node : ℕ → ℕ = λ (u : ℕ). get_or nodes u 0 in
    let u = get_or us i 0 in
    let inside = All-get_or (λ (z : ℕ). z < length nodes) us i 0 lt c.requires.members in
    let small = All-get_or (λ (z : ℕ). z < length c.args.marks.now) nodes u 0 inside c.requires.nodes in
    let long = c.loop-u.invariant.long in
    let here : map node (take (i + 1) us) ≡ map node (take i us) ++ node u ∷ [] = ap (map node) (take_more us i 0 lt) ∙ map-append node (take i us) (u ∷ []) in
    subst (λ (vs : List ℕ). AreMarked vs c.args.marks.now (set now (node u) true)) (sym here) (marked_more (map node (take i us)) c.args.marks.now now (node u) c.loop-u.invariant (omega arith))

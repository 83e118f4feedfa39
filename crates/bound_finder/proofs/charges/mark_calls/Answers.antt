use Rattle.std.proofs.Common.{◌≡◌, ℕ, ◌+◌, ◌*◌, ◌<◌, List, [], ◌∷◌, ◌++◌, length, map, get_or, set, true, take, sym, ap, ◌∙◌, subst, arith}
use Rattle.std.proofs.lemmas.List.{take_more, map-append}
use Rattle.std.proofs.lemmas.List.Elements.{All-get_or}
use Rattle.method_flow.specs.declared.flow.Call.{Call}
use Rattle.compact_walks.specs.Charging.{AreMarked}
use Rattle.compact_walks.proofs.Marks.{marked_more}
use Rattle.bound_finder.proofs.charges.mark_calls.Goals as goal

pub loop-call-preserved : goal.loop-call-preserved
loop-call-preserved c =
    let calls = c.args.calls.now in
    let i = c.loop-call.call-index in
    let lt = c.loop-call-test.true in
    let old = c.args.flags.now in
    let now = c.loop-call.flags in
    let none : Call = record { place = 0; targets = 0 } in
    let node : Call → ℕ = λ (d : Call). 2 * d.place in
    let d = get_or calls i none in
    let inside = All-get_or (λ (e : Call). 2 * e.place < length old) calls i none lt c.requires in
    let long = c.loop-call.invariant.long in
    let here : map node (take (i + 1) calls) ≡ map node (take i calls) ++ node d ∷ [] = ap (map node) (take_more calls i none lt) ∙ map-append node (take i calls) (d ∷ []) in
    subst (λ (us : List ℕ). AreMarked us old (set now (node d) true)) (sym here) (marked_more (map node (take i calls)) old now (node d) c.loop-call.invariant (omega arith))

use Rattle.std.proofs.Common.{◌≡◌, ℕ, ◌*◌, Bool, false, List, length, map, get_or, replicate, sym, ap, ◌∙◌, subst, arith}
use Rattle.std.proofs.lemmas.List.{length-replicate, with_items_is}
use Rattle.loop_nest.proofs.Searching.{same_everywhere}
use Rattle.method_flow.specs.declared.flow.Call.{Call}
use Rattle.compact_walks.specs.Charging.{AreMarked}
use Rattle.bound_finder.specs.Prepared.{AreCallNodes}
use Rattle.bound_finder.proofs.CallNodes.{call_inside, marked_calls}
use Rattle.bound_finder.proofs.charges.call_nodes.Goals as goal

pub mark_calls-requires : goal.mark_calls-requires
mark_calls-requires c = λ i d lt.
    let k = c.args.k.now in
    let place = call_inside c.starts_follow_one_another.ensures k c.code.ensures.whole c.calls.result.now c.calls.ensures.calls i d lt in
    let size = ap length (c.in_ok-flags.ensures.items_if_clones_equal (λ y h. h)) in
    let code = ap length c.code.ensures.code in
    let value = ap length c.deref_mut.ensures.value in
    omega (arith, length-replicate (2 * length c.code.result.now) false)

pub returns-clause-nodes : goal.returns-clause-nodes
returns-clause-nodes c =
    let k = c.args.k.now in
    let flags = c.in_ok-flags.flags in
    let now = c.mark_calls.new.flags in
    let node : Call → ℕ = λ (d : Call). 2 * d.place in
    let none : flags.items ≡ replicate (2 * length c.code.result.now) false = c.in_ok-flags.ensures.items_if_clones_equal (λ y h. h) in
    let marked : AreMarked (map node k.calls) flags.items now =
    subst (λ (ds : List Call). AreMarked (map node ds) flags.items now) c.calls.ensures.calls (subst (λ (fs : List Bool). AreMarked (map node c.calls.result.now) fs now) c.deref_mut.ensures.value c.mark_calls.ensures) in
    let nodes = marked_calls k.calls flags.items now (λ u. ap (λ (fs : List Bool). get_or fs u false) none ∙ same_everywhere (2 * length c.code.result.now) u false) marked in
    let long = marked.long in
    let ok = flags.ok in
    subst (λ (fs : List Bool). AreCallNodes k.calls fs) (sym (with_items_is flags now (omega (arith, ok.0)))) nodes

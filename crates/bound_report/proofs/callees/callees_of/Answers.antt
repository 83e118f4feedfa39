use Rattle.std.proofs.Common.{◌≡◌, ◌*◌, length, rules, ap, ◌∙◌}
use Rattle.std.proofs.lemmas.List.{length-replicate}
use Rattle.bound_finder.proofs.Coding.{places_within, numbers_within}
use Rattle.bound_report.specs.Callees.{no_callee}
use Rattle.bound_report.proofs.callees.callees_of.Goals as goal

pub write_callees-requires-clause-inside : goal.write_callees-requires-clause-inside
write_callees-requires-clause-inside c =
    let k = c.method-method.result.now in
    let calls = c.calls-calls.result.now in
    let code = ap length c.code.ensures.code in
    let size : length c.deref_mut.result.now ≡ 2 * length k.code =
    ap length c.deref_mut.ensures.value ∙ (ap length (c.in_ok-callees.ensures.items_if_clones_equal (λ y h. search rules)) ∙ (length-replicate (2 * length c.code.result.now) no_callee ∙ ap (λ n. 2 * n) code))
    in
    numbers_within k calls (length c.deref_mut.result.now) size (places_within k calls c.calls-calls.ensures.whole (c.starts_follow_one_another.ensures k.code) c.calls-calls.ensures.calls)

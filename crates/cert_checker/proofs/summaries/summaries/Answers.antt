use Rattle.std.proofs.Common.{◌≡◌, ℕ, ◌+◌, List, length, get_or, Some, sym, ap, ◌∙◌, subst}
use Rattle.std.specs.Prelude.{slice_get}
use Rattle.std.proofs.lemmas.List.{length_push}
use Rattle.std.proofs.lemmas.Option.{slice_get-get_or}
use Rattle.method_flow.specs.declared.flow.Call.{Call}
use Rattle.method_flow.specs.Flow.{targets_of_call}
use Rattle.cert_checker.specs.declared.summaries.Summary.{Summary}
use Rattle.cert_checker.specs.Telling.{IsSummary, told}
use Rattle.cert_checker.proofs.Pushing.{EachAgrees, agrees_more}
use Rattle.cert_checker.proofs.summaries.summaries.Goals as goal

pub loop-call-preserved : goal.loop-call-preserved
loop-call-preserved c =
    let calls = c.args.calls.now in
    let i = c.loop-call.call-index in
    let call : Call = get_or calls i (record { place = 0; targets = 0 }) in
    let summary : Summary = c.summary_of.result in
    let old = c.loop-call.summaries.items in
    let R : Call → Summary → Type 0 = λ k s. IsSummary (told c.args.t.now k.place) (targets_of_call c.args.t.now.task.now.flow k) s in
    let at : slice_get calls i ≡ Some call = slice_get-get_or calls i (record { place = 0; targets = 0 }) c.loop-call-test.true in
    let P : List Summary → Type 0 = λ ss. EachAgrees R calls ss in
    let long = c.loop-call.invariant.long in
    record {
      long = ap length c.in_ok-push.ensures.items ∙ length_push old summary ∙ ap (λ (n : ℕ). n + 1) long;
      each = subst P (sym c.in_ok-push.ensures.items) (agrees_more R calls old i call summary long at c.summary_of.ensures c.loop-call.invariant.each);
    }

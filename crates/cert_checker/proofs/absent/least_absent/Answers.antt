use Rattle.std.proofs.Common.{◌≡◌, ℕ, ◌+◌, get_or, Option, Some, None, false, sym, ◌∙◌, subst, arith}
use Rattle.std.specs.Prelude.{slice_get}
use Rattle.std.proofs.lemmas.Option.{slice_get-get_or}
use Rattle.section_check.specs.Least.{IsLeast}
use Rattle.method_flow.specs.declared.flow.Call.{Call}
use Rattle.cert_checker.specs.declared.summaries.Summary.{Summary}
use Rattle.cert_checker.proofs.Lacking.{IsAbsentUnder, absent_none, absent_more, absent_skips, absent_all}
use Rattle.cert_checker.proofs.absent.least_absent.Goals as goal
use Rattle.cert_checker.proofs.absent.least_absent.Goals.{then-is_flagged, else-is_flagged}

pub loop-i-init : goal.loop-i-init
loop-i-init c = absent_none c.args.calls.now c.args.summaries.now c.args.nodes.now

pub loop-i-preserved : goal.loop-i-preserved
loop-i-preserved c =
    let calls = c.args.calls.now in
    let summaries = c.args.summaries.now in
    let flags = c.args.nodes.now in
    let i = c.loop-i.i in
    let call : Call = get_or calls i (record { place = 0; targets = 0 }) in
    let summary : Summary = get_or summaries i (record { absent = None; goes_on = false; added = 0 }) in
    let lt = c.loop-i-test.true in
    let long = c.requires.long in
    let call_is : slice_get calls i ≡ Some call = slice_get-get_or calls i (record { place = 0; targets = 0 }) lt in
    let summary_is : slice_get summaries i ≡ Some summary = slice_get-get_or summaries i (record { absent = None; goes_on = false; added = 0 }) (omega arith) in
    let P : Option ℕ → Type 0 = λ o. IsLeast (IsAbsentUnder calls summaries flags (i + 1)) o in
    elim c.if-is_flagged.branch [
      | then-is_flagged w ↦ subst P (sym (w.least-is ∙ w.lesser-least.ensures)) (absent_more calls summaries flags i call summary c.loop-i.least call_is summary_is (sym w.if-is_flagged.ensures) c.loop-i.invariant)
      | else-is_flagged w ↦ subst P (sym w.least-is) (absent_skips calls summaries flags i call summary c.loop-i.least call_is summary_is (sym w.if-is_flagged.ensures) c.loop-i.invariant)
    ]

pub returns : goal.returns
returns c = absent_all c.args.calls.now c.args.summaries.now c.args.nodes.now c.loop-i.i c.loop-i.least c.loop-i-test.false c.loop-i.invariant

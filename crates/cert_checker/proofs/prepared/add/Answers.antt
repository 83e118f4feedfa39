use Rattle.std.proofs.Common.{◌≡◌, ◌+◌, ◌*◌, ◌<◌, length, get_or, Some, None, false, refl, arith}
use Rattle.std.specs.Prelude.{slice_get}
use Rattle.std.proofs.lemmas.Option.{slice_get-get_or}
use Rattle.method_flow.specs.declared.flow.Call.{Call}
use Rattle.cert_checker.specs.declared.summaries.Summary.{Summary}
use Rattle.cert_checker.proofs.Adding.{added_none, added_more, added_all, not_yet}
use Rattle.cert_checker.proofs.prepared.add.Goals as goal

pub loop-i-init : goal.loop-i-init
loop-i-init c = added_none c.args.costs.now c.args.calls.now c.args.summaries.now

pub overflow_add-costs : goal.overflow_add-costs
overflow_add-costs c =
    let calls = c.args.calls.now in
    let summaries = c.args.summaries.now in
    let i = c.loop-i.i in
    let call : Call = get_or calls i (record { place = 0; targets = 0 }) in
    let summary : Summary = get_or summaries i (record { absent = None; goes_on = false; added = 0 }) in
    let lt = c.loop-i-test.true in
    let long = c.requires.long in
    let call_is : slice_get calls i ≡ Some call = slice_get-get_or calls i (record { place = 0; targets = 0 }) lt in
    let summary_is : slice_get summaries i ≡ Some summary = slice_get-get_or summaries i (record { absent = None; goes_on = false; added = 0 }) (omega arith) in
    let own = not_yet c.args.costs.now calls summaries i c.loop-i.costs call c.requires.rising call_is c.loop-i.invariant in
    let small = c.requires.small i call summary call_is summary_is in
    omega arith

pub loop-i-preserved : goal.loop-i-preserved
loop-i-preserved c =
    let calls = c.args.calls.now in
    let summaries = c.args.summaries.now in
    let i = c.loop-i.i in
    let call : Call = get_or calls i (record { place = 0; targets = 0 }) in
    let summary : Summary = get_or summaries i (record { absent = None; goes_on = false; added = 0 }) in
    let lt = c.loop-i-test.true in
    let long = c.requires.long in
    let call_is : slice_get calls i ≡ Some call = slice_get-get_or calls i (record { place = 0; targets = 0 }) lt in
    let summary_is : slice_get summaries i ≡ Some summary = slice_get-get_or summaries i (record { absent = None; goes_on = false; added = 0 }) (omega arith) in
    let within : 2 * call.place < length c.args.costs.now = c.requires.inside i (record { place = 0; targets = 0 }) lt in
    let same = c.loop-i.invariant.long in
    added_more c.args.costs.now calls summaries i c.loop-i.costs call summary (get_or c.loop-i.costs (2 * call.place) 0 + summary.added) c.requires.rising call_is summary_is (omega arith) refl c.loop-i.invariant

pub returns : goal.returns
returns c = added_all c.args.costs.now c.args.calls.now c.args.summaries.now c.loop-i.i c.loop-i.costs c.loop-i-test.false c.loop-i.invariant

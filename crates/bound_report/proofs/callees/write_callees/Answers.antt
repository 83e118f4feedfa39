use Rattle.std.proofs.Common.{◌≡◌, ℕ, ◌*◌, ◌<◌, Bool, false, List, not, length, get_or, Some, subst, arith}
use Rattle.std.specs.Prelude.{slice_get, slice_index_or}
use Rattle.std.proofs.lemmas.Option.{slice_get-get_or}
use Rattle.method_flow.specs.declared.flow.Call.{Call}
use Rattle.bound_report.specs.Callees.{IsCallee}
use Rattle.bound_report.proofs.Calling.{written_more, written_all}
use Rattle.bound_report.proofs.callees.write_callees.Goals as goal

pub loop-call-preserved : goal.loop-call-preserved
loop-call-preserved c =
    let calls = c.args.calls.now in
    let table = c.args.table.now in
    let back = c.args.back in
    let i = c.loop-call.call-index in
    let lt = c.loop-call-test.true in
    let d : Call = get_or calls i (record { place = 0; targets = 0 }) in
    let at : slice_get calls i ≡ Some d = slice_get-get_or calls i (record { place = 0; targets = 0 }) lt in
    let long = c.loop-call.auto.callees in
    let within = c.requires.inside i (record { place = 0; targets = 0 }) lt in
    let inside : 2 * d.place < length c.loop-call.callees = omega arith in
    let B : Bool → Type 0 = λ b. IsCallee table (not b) back c.targets.result.now c.callee_of.result in
    let T : List ℕ → Type 0 = λ ts. IsCallee table (not (slice_index_or c.args.without_loads.now (2 * d.place) false)) back ts c.callee_of.result in
    written_more c.args.f.now calls table back c.args.without_loads.now i c.loop-call.callees d c.callee_of.result c.requires.rising at inside
    (subst T c.targets.ensures.targets (subst B c.is_flagged.ensures c.callee_of.ensures)) c.loop-call.invariant

pub returns : goal.returns
returns c = written_all c.args.f.now c.args.calls.now c.args.table.now c.args.back c.args.without_loads.now c.loop-call.call-index c.loop-call.callees c.loop-call-test.false c.loop-call.invariant

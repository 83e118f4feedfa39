use Rattle.std.proofs.Common.{◌≡◌, None, sym, ◌∙◌, rules}
use Rattle.analysis_commands.proofs.Executives.{found_call, call_lists, targets_ok, targets_known, targets_absent}
use Rattle.analysis_commands.proofs.executive.target_at.Goals as goal

pub returns-in_err-call-clause-only : goal.returns-in_err-call-clause-only
returns-in_err-call-clause-only c =
    let none : c.from_residual.result ≡ None = search rules in
    targets_absent c.args.flow.now c.args.caller c.args.place c.method-method.result.now c.from_residual.result c.calls.ensures.whole c.method-method.ensures (sym c.call_at.ensures ∙ c.in_err-call.was) none

pub only_target-requires : goal.only_target-requires
only_target-requires c =
    let k = c.method-method.result.now in
    call_lists c.args.flow.now c.args.caller k c.in_ok-call.call c.method_count.ensures.form c.method-method.ensures (found_call c.args.place k.calls c.in_ok-call.call (sym c.in_ok-call.ensures)).0

pub returns-clause-only : goal.returns-clause-only
returns-clause-only c =
    targets_ok c.args.flow.now c.args.caller c.args.place c.method-method.result.now c.in_ok-call.call c.only_target.result c.method_count.ensures.form c.calls.ensures.whole c.method-method.ensures (sym c.in_ok-call.ensures) c.only_target.ensures

pub returns-clause-known : goal.returns-clause-known
returns-clause-known c =
    targets_known c.args.flow.now c.args.caller c.args.place c.method-method.result.now c.in_ok-call.call c.only_target.result c.method_count.ensures.form c.method-method.ensures (sym c.in_ok-call.ensures) c.only_target.ensures

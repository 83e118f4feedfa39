use Rattle.std.proofs.Common.{◌<◌, length, All, sym, ap, ◌∙◌, subst, arith}
use Rattle.std.proofs.lemmas.Result.{IfOk-weaker}
use Rattle.flow_graph.proofs.Placing.{ok_both}
use Rattle.method_flow.specs.Flow.{Flow}
use Rattle.method_flow.specs.declared.flow.Call.{Call}
use Rattle.method_flow.specs.declared.timing.Timing.{Timing}
use Rattle.bound_finder.proofs.Coding.{lists_within}
use Rattle.bound_finder.proofs.Told.{told_in}
use Rattle.bound_finder.proofs.telling.tell.Goals as goal

pub calls_told-requires : goal.calls_told-requires
calls_told-requires c =
    let f = c.args.task.now.flow in
    let calls = c.calls.result.now in
    let small = c.load-back.ensures.small in
    let L : Flow → Type 0 = λ g. All (λ (x : Call). x.targets < length g.targets) calls in
    record {
      lists = subst L (sym c.flow-2.ensures) (lists_within f c.flow.result.now c.args.m c.method-method.result.now calls c.method_count.ensures.form c.flow.ensures c.method-method.ensures c.calls.ensures.calls);
      long = c.requires.long ∙ ap (λ (g : Flow). length g.methods) (sym c.flow-2.ensures);
      limited = c.requires.limited;
      back = (omega arith);
    }

pub returns : goal.returns
returns c = record {
  told =
      IfOk-weaker c.calls_told.result _ _
      (λ told both. told_in c.args.task.now c.args.m c.args.table.now c.method-method.result.now c.calls.result.now c.flow-2.result.now c.timing.result.read c.load-back.result told.items c.method-method.ensures c.flow-2.ensures c.calls.ensures.calls
      (ap (λ (t : Timing). t.read) c.timing.ensures.timing) c.load-back.ensures.of_code both.0 both.1)
      (ok_both c.calls_told.result _ _ c.calls_told.ensures.told c.calls_told.ensures.small);
}

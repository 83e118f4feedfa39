use Rattle.std.proofs.Common.{◌<◌, List, length, All, sym, subst}
use Rattle.std.proofs.lemmas.Option.{slice_get_within, get_or_from_slice_get}
use Rattle.method_flow.specs.Flow.{Coded}
use Rattle.method_flow.specs.declared.flow.Call.{Call}
use Rattle.call_regions.specs.Tables.{IsTargetOf}
use Rattle.fact_rules.proofs.Calling.{calls_from, calls_to}
use Rattle.fact_rules.proofs.callers.may_call.Goals as goal

pub one_may_run-requires : goal.one_may_run-requires
one_may_run-requires c =
    let f = c.args.f.now in
    let k = c.method.result.now in
    let P : Coded → Type 0 = λ j. All (λ d. d.targets < length f.targets) j.calls in
    let lists : P k = subst P (get_or_from_slice_get f.methods c.args.m k k c.method.ensures) (c.method_count.ensures.form.lists c.args.m k (slice_get_within f.methods c.args.m k c.method.ensures)) in
    let Q : List Call → Type 0 = λ ks. All (λ (d : Call). d.targets < length f.targets) ks in
    subst Q (sym c.calls.ensures.calls) lists

pub returns : goal.returns
returns c =
    λ P of.
    let f = c.args.f.now in
    let k = c.method.result.now in
    let law = c.runs_are_calls.ensures in
    let T : List Call → Type 0 = λ ks. IsTargetOf f ks c.args.target in (
      λ yes. calls_from law P f c.args.m c.args.target of k c.method.ensures c.calls.ensures.whole (subst T c.calls.ensures.calls (c.one_may_run.ensures.0 yes)),
      λ may. c.one_may_run.ensures.1 (subst T (sym c.calls.ensures.calls) (calls_to law P f c.args.m c.args.target of k c.method.ensures c.calls.ensures.whole may)),
    )

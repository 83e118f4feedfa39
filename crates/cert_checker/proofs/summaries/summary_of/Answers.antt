use Rattle.std.proofs.Common.{ℕ, ◌<◌, List, [], length, get_or, sym, ap, ◌∙◌, subst}
use Rattle.std.specs.List.Sorted.{IsStrictlyIncreasing}
use Rattle.method_flow.specs.Flow.{Flow, targets_of_call}
use Rattle.cert_checker.specs.Telling.{IsSummary, told, summary_with}
use Rattle.cert_checker.proofs.Summing.{summary_none, summary_more, summary_all}
use Rattle.cert_checker.proofs.summaries.summary_of.Goals as goal

pub loop-x-init : goal.loop-x-init
loop-x-init c = summary_none (told c.args.t.now c.args.call.place) c.targets-x-items.result.now

pub loop-x-preserved : goal.loop-x-preserved
loop-x-preserved c =
    let xs = c.targets-x-items.result.now in
    let i = c.loop-x.x-index in
    let x = get_or xs i 0 in
    let call = c.args.call in
    let L : Flow → Type 0 = λ f. call.targets < length f.targets in
    let lt = subst L (sym c.flow.ensures.flow) c.requires.lists in
    let rise : IsStrictlyIncreasing xs = subst IsStrictlyIncreasing (sym c.targets-x-items.ensures.targets) (c.targets-x-items.ensures.form.rising call.targets [] lt) in
    summary_more (told c.args.t.now call.place) xs i c.loop-x.summary c.with_target-summary.result rise c.loop-x-test.true
    (c.with_target-summary.ensures ∙ ap (summary_with c.loop-x.summary x) c.told.ensures) c.loop-x.invariant

pub returns : goal.returns
returns c =
    let xs = c.targets-x-items.result.now in
    let call = c.args.call in
    let h = summary_all (told c.args.t.now call.place) xs c.loop-x.x-index c.loop-x.summary c.loop-x-test.false c.loop-x.invariant in
    let P : List ℕ → Type 0 = λ ys. IsSummary (told c.args.t.now call.place) ys c.loop-x.summary in
    subst P (c.targets-x-items.ensures.targets ∙ ap (λ (f : Flow). targets_of_call f call) c.flow.ensures.flow) h

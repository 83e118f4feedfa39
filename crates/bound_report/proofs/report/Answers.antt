use Rattle.std.proofs.Common.{ℕ, List, Some, None, sym, subst}
use Rattle.std.specs.Prelude.{IfOk, IfErr, IfSome, IfNone}
use Rattle.std.proofs.lemmas.Result.{err_from_is_err_and}
use Rattle.node_costs.specs.Costs.{bounds_of}
use Rattle.bound_finder.specs.declared.ending.MethodBound.TheVariants.{Printed}
use Rattle.bound_finder.specs.Ending.{IsMethodBound}
use Rattle.bound_finder.specs.Known.{BoundSetting, bounds_in, ForEach}
use Rattle.bound_finder.specs.Methods.{AreMethodsFound}
use Rattle.bound_finder.specs.Ready.{AreReady, IsReadyOrder, IsSizeCause, IsWantOfMemory}
use Rattle.bound_finder.proofs.Certifying.{want_is_cause}
use Rattle.bound_finder.proofs.Ordering.{are_ready}
use Rattle.bound_report.specs.Report.{IsReportOf}
use Rattle.bound_report.specs.Settled.{AreReadyIn}
use Rattle.bound_report.proofs.report.Goals as goal

pub returns-in_err-found-clause-cause : goal.returns-in_err-found-clause-cause
returns-in_err-found-clause-cause c =
    let p = err_from_is_err_and c.from_residual.result c.from_residual.ensures.1 in
    rw (p.1, p.2) (λ P of.
    let fault = c.in_err-found.field-0.0 in
    let S : BoundSetting → Type 0 = λ s. ForEach s (λ P. AreReady P (bounds_in s) c.as_slice.result.now → IsWantOfMemory fault) in
    let R : List ℕ → Type 0 = λ ms. AreReady P (bounds_of c.args.f.now c.args.b.now) ms in
    let ready = are_ready P (bounds_of c.args.f.now c.args.b.now) c.args.root c.args.order.now.methods (c.requires.ready P of) in
    want_is_cause P c.args.t (bounds_of c.args.f.now c.args.b.now) c.args.root fault (subst S c.new-task.ensures c.in_err-found.ensures.cause P of (subst R (sym c.as_slice.ensures) ready)))

pub report_of-requires-clause-found : goal.report_of-requires-clause-found
report_of-requires-clause-found c =
    let S : BoundSetting → Type 0 = λ s. ForEach s (λ P. IsReadyOrder P (bounds_in s) c.args.root c.args.order.now.methods) in
    let F : List ℕ → Type 0 = λ ms. AreMethodsFound c.new-task.result ms c.in_ok-found.found in
    let A : List ℕ → Type 0 = λ ms. AreReadyIn c.new-task.result c.args.root ms c.in_ok-found.found in
    subst A (sym c.as_slice-2.ensures)
    (record {
      distinct = c.requires.distinct;
      found = subst F c.as_slice.ensures c.in_ok-found.ensures.found;
      ready = subst S (sym c.new-task.ensures) c.requires.ready;
    })

pub returns-clause-never : goal.returns-clause-never
returns-clause-never c =
    let S : BoundSetting → Type 0 = λ s. IfOk c.report_of.result (λ o. IfNone o (ForEach s (λ P. IsMethodBound P s.timing (bounds_in s) c.args.root (Printed None)))) in
    subst S c.new-task.ensures c.report_of.ensures.never

pub returns-clause-printed : goal.returns-clause-printed
returns-clause-printed c =
    let S : BoundSetting → Type 0 = λ s. IfOk c.report_of.result (λ o. IfSome o (λ r. ForEach s (λ P. IsMethodBound P s.timing (bounds_in s) c.args.root (Printed (Some r.totals.bound))))) in
    subst S c.new-task.ensures c.report_of.ensures.printed

pub returns-clause-parts : goal.returns-clause-parts
returns-clause-parts c =
    let S : BoundSetting → Type 0 = λ s. IfOk c.report_of.result (λ o. IfSome o (λ r. ForEach s (λ P. IsReportOf P s.timing (bounds_in s) c.args.root r))) in
    subst S c.new-task.ensures c.report_of.ensures.parts

pub returns-clause-cause : goal.returns-clause-cause
returns-clause-cause c =
    let S : BoundSetting → Type 0 = λ s. IfErr c.report_of.result (λ e. ForEach s (λ P. IsSizeCause P s.timing (bounds_in s) c.args.root e)) in
    subst S c.new-task.ensures c.report_of.ensures.cause

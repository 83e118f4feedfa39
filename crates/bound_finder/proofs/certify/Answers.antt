use Rattle.std.proofs.Common.{ℕ, List, sym, subst}
use Rattle.std.specs.Prelude.{IfOk, IfErr}
use Rattle.std.proofs.lemmas.Result.{err_from_is_err_and}
use Rattle.node_costs.specs.Costs.{bounds_of}
use Rattle.bound_rules.specs.Bounding.{KeepSize}
use Rattle.bound_rules.specs.Conditions.{MeetsConditions}
use Rattle.bound_rules.specs.Numbers.{IsPrinted}
use Rattle.bound_finder.specs.Certified.{AreEmptyIfEndless}
use Rattle.bound_finder.specs.Known.{BoundSetting, bounds_in, ForEach}
use Rattle.bound_finder.specs.Methods.{AreMethodsFound}
use Rattle.bound_finder.specs.Ready.{AreReady, IsReadyOrder, IsSizeCause, IsWantOfMemory}
use Rattle.bound_finder.proofs.Certifying.{want_is_cause}
use Rattle.bound_finder.proofs.Ordering.{are_ready}
use Rattle.bound_finder.proofs.certify.Goals as goal

pub returns-in_err-found-clause-cause : goal.returns-in_err-found-clause-cause
returns-in_err-found-clause-cause c =
    let p = err_from_is_err_and c.from_residual.result c.from_residual.ensures.1 in
    rw (p.1, p.2) (λ P of.
    let fault = c.in_err-found.field-0.0 in
    let S : BoundSetting → Type 0 = λ s. ForEach s (λ P. AreReady P (bounds_in s) c.as_slice.result.now → IsWantOfMemory fault) in
    let R : List ℕ → Type 0 = λ ms. AreReady P (bounds_of c.args.f.now c.args.b.now) ms in
    let ready = are_ready P (bounds_of c.args.f.now c.args.b.now) c.args.root c.args.order.now.methods (c.requires.ready P of) in
    want_is_cause P c.args.t (bounds_of c.args.f.now c.args.b.now) c.args.root fault (subst S c.new-task.ensures c.in_err-found.ensures.cause P of (subst R (sym c.as_slice.ensures) ready)))

pub certificate-requires-clause-found : goal.certificate-requires-clause-found
certificate-requires-clause-found c =
    let S : BoundSetting → Type 0 = λ s. ForEach s (λ P. IsReadyOrder P (bounds_in s) c.args.root c.args.order.now.methods) in
    let F : List ℕ → Type 0 = λ ms. AreMethodsFound c.new-task.result ms c.in_ok-found.found in
    record {
      order = c.args.order.now.methods;
      distinct = c.requires.distinct;
      found = subst F c.as_slice.ensures c.in_ok-found.ensures.found;
      ready = subst S (sym c.new-task.ensures) c.requires.ready;
    }

pub returns-clause-meets : goal.returns-clause-meets
returns-clause-meets c =
    let S : BoundSetting → Type 0 = λ s. IfOk c.certificate.result (λ x. ForEach s (λ P. MeetsConditions P s.timing (bounds_in s) x)) in
    subst S c.new-task.ensures c.certificate.ensures.meets

pub returns-clause-empty : goal.returns-clause-empty
returns-clause-empty c =
    let S : BoundSetting → Type 0 = λ s. IfOk c.certificate.result (λ x. ForEach s (λ P. AreEmptyIfEndless P x.sections)) in
    subst S c.new-task.ensures c.certificate.ensures.empty

pub returns-clause-printed : goal.returns-clause-printed
returns-clause-printed c =
    let S : BoundSetting → Type 0 = λ s. IfOk c.certificate.result (λ x. ForEach s (λ P. IsPrinted P s.timing (bounds_in s) c.args.root x.bound)) in
    subst S c.new-task.ensures c.certificate.ensures.printed

pub returns-clause-kept : goal.returns-clause-kept
returns-clause-kept c =
    let S : BoundSetting → Type 0 = λ s. IfOk c.certificate.result (λ x. ForEach s (λ P. KeepSize P s.timing (bounds_in s) c.args.root)) in
    subst S c.new-task.ensures c.certificate.ensures.kept

pub returns-clause-cause : goal.returns-clause-cause
returns-clause-cause c =
    let S : BoundSetting → Type 0 = λ s. IfErr c.certificate.result (λ e. ForEach s (λ P. IsSizeCause P s.timing (bounds_in s) c.args.root e)) in
    subst S c.new-task.ensures c.certificate.ensures.cause

use Rattle.std.proofs.Common.{inr, ap, ◌∙◌, subst}
use Rattle.section_check.specs.Least.{IsLeast}
use Rattle.cert_checker.specs.Answer.{joined}
use Rattle.cert_checker.specs.Section.{IsWrongBeside, bounds_in}
use Rattle.fact_rules.specs.Pricing.{PricedSection}
use Rattle.fact_checker.specs.Known.{pricing}
use Rattle.fact_checker.proofs.Answering.{missing_fails, prepared_meets, prepared_fails}
use Rattle.fact_checker.proofs.section.check_prepared.Goals as goal

pub returns-in-Some-clause-fails : goal.returns-in-Some-clause-fails
returns-in-Some-clause-fails c =
    λ P earlier of h.
    inr (missing_fails c.args.task.now (pricing c.args.known.now) c.args.s.now c.args.p.now c.in-Ok.answer c.requires.coded c.in-Ok.ensures c.in-Some.x c.in-Some.is P earlier of h)

pub returns-clause-met : goal.returns-clause-met
returns-clause-met c =
    let wrong = c.wrong_beside.result in
    let W : PricedSection → Type 0 = λ x. IsLeast (IsWrongBeside (bounds_in c.args.task.now) x.plain c.deref.result.now) wrong in
    let joins = c.joined.ensures ∙ ap (λ (x : PricedSection). joined x.plain.method wrong c.in-Ok.answer) c.s.view_is in
    prepared_meets c.args.task.now (pricing c.args.known.now) c.args.s.now c.args.p.now c.in-Ok.answer c.requires.coded c.in-Ok.ensures wrong c.deref.result.now c.deref.ensures.value c.in_default-absent.is
    (subst W c.s.view_is c.wrong_beside.ensures) c.joined.result joins

pub returns-clause-fails : goal.returns-clause-fails
returns-clause-fails c =
    let wrong = c.wrong_beside.result in
    let W : PricedSection → Type 0 = λ x. IsLeast (IsWrongBeside (bounds_in c.args.task.now) x.plain c.deref.result.now) wrong in
    let joins = c.joined.ensures ∙ ap (λ (x : PricedSection). joined x.plain.method wrong c.in-Ok.answer) c.s.view_is in
    prepared_fails c.args.task.now (pricing c.args.known.now) c.args.s.now c.args.p.now c.in-Ok.answer c.requires.coded c.in-Ok.ensures wrong c.deref.result.now c.deref.ensures.value c.in_default-absent.is
    (subst W c.s.view_is c.wrong_beside.ensures) c.joined.result joins

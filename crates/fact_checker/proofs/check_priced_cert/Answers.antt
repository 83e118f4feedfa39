use Rattle.std.proofs.Common.{All, length, sym, ap, ◌∙◌, subst, rules}
use Rattle.std.specs.Result.{IfErr}
use Rattle.std.proofs.lemmas.Result.{IfErr-weaker, err_from_is_err_and}
use Rattle.method_flow.specs.Flow.{Flow}
use Rattle.node_costs.specs.Costs.{bounds_of}
use Rattle.cert_checker.specs.Section.{IsUsual}
use Rattle.cert_checker.proofs.Usual.{all_usual}
use Rattle.fact_rules.specs.Conditions.{sections_of}
use Rattle.fact_checker.specs.Known.{GivenPrices, pricing}
use Rattle.fact_checker.specs.Missing.{IsMissingOrMemory}
use Rattle.fact_checker.specs.Section.{AllMeetPriced, SomeFailPriced, PricedLastMeets, PricedLastFails}
use Rattle.fact_checker.proofs.Concluding.{missing_refuses, sections_refuse, last_refuses, all_meet}
use Rattle.fact_checker.proofs.check_priced_cert.Goals as goal

pub returns-in_err-known-clause-fault : goal.returns-in_err-known-clause-fault
returns-in_err-known-clause-fault c =
    let cause : IfErr c.from_residual.result (IsMissingOrMemory c.args.facts.now c.args.c.now) = search rules in
    IfErr-weaker c.from_residual.result _ _ (λ fault h. missing_refuses c.args.f.now (bounds_of c.args.f.now c.args.b.now) c.args.t c.args.facts.now c.args.c.now fault h) cause

pub check_sections-requires : goal.check_sections-requires
check_sections-requires c =
    let U : GivenPrices → Type 0 = λ g. All (λ s. IsUsual s.section) g.certificate.plain.sections in
    record {
      table = ap (λ (g : GivenPrices). g.methods) c.in_ok-known.ensures.known ∙ (c.method_count.ensures.count ∙ ap (λ (f : Flow). length f.methods) (sym c.in-Ok.ensures.0));
      usual = subst U (sym c.in_ok-known.ensures.known) (all_usual c.args.c.now.plain c.requires.grammar.plain);
    }

pub returns-in_err-values-clause-fault : goal.returns-in_err-values-clause-fault
returns-in_err-values-clause-fault c =
    let set = c.in-Ok.task in
    let fault = c.in_err-values.field-0.0 in
    let p = err_from_is_err_and c.from_residual-in_err-values.result c.from_residual-in_err-values.ensures.1 in
    let F : GivenPrices → Type 0 = λ g. SomeFailPriced set (pricing g) (sections_of g.certificate) fault in
    rw (p.1, p.2)
    (sections_refuse set c.args.f.now c.args.b.now c.args.t c.args.facts.now c.args.c.now c.in-Ok.ensures c.in_ok-known.ensures.facts fault (subst F c.in_ok-known.ensures.known c.in_err-values.ensures.fails))

pub returns-in_err-check_last-clause-fault : goal.returns-in_err-check_last-clause-fault
returns-in_err-check_last-clause-fault c =
    let set = c.in-Ok.task in
    let valued = c.in_ok-values.values.valued in
    let fault = c.in_err-check_last.field-0.0 in
    let p = err_from_is_err_and c.from_residual-in_err-check_last.result c.from_residual-in_err-check_last.ensures.1 in
    let M : GivenPrices → Type 0 = λ g. AllMeetPriced set (pricing g) (sections_of g.certificate) valued in
    let L : GivenPrices → Type 0 = λ g. PricedLastFails set valued (pricing g) g.certificate.plain.bound fault in
    rw (p.1, p.2)
    (last_refuses set c.args.f.now c.args.b.now c.args.t c.args.facts.now c.args.c.now c.in-Ok.ensures c.in_ok-known.ensures.facts valued (subst M c.in_ok-known.ensures.known c.in_ok-values.ensures.met) fault
    (subst L c.in_ok-known.ensures.known c.in_err-check_last.ensures.fails))

pub new-requires-3-clause-meets : goal.new-requires-3-clause-meets
new-requires-3-clause-meets c =
    let set = c.in-Ok.task in
    let valued = c.in_ok-values.values.valued in
    let M : GivenPrices → Type 0 = λ g. AllMeetPriced set (pricing g) (sections_of g.certificate) valued in
    let L : GivenPrices → Type 0 = λ g. PricedLastMeets set valued (pricing g) g.certificate.plain.bound in
    all_meet set c.args.f.now c.args.b.now c.args.t c.args.facts.now c.args.c.now c.in-Ok.ensures c.in_ok-known.ensures.facts valued (subst M c.in_ok-known.ensures.known c.in_ok-values.ensures.met)
    (subst L c.in_ok-known.ensures.known c.in_ok-check_last.ensures.met)

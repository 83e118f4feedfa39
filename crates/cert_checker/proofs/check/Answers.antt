use Rattle.std.proofs.Common.{List, sym, subst, rules, All}
use Rattle.std.specs.Result.{IfErr}
use Rattle.std.proofs.lemmas.Result.{IfErr-weaker}
use Rattle.certificates.specs.declared.cert.CertSection.{CertSection}
use Rattle.cert_checker.specs.Section.{IsUsual, SomeFailFor, LastFailsFor}
use Rattle.cert_checker.proofs.Usual.{all_usual}
use Rattle.cert_checker.proofs.Concluding.{sections_refuse, last_refuses, all_meet}
use Rattle.cert_checker.proofs.check.Goals as goal

pub check_sections-requires : goal.check_sections-requires
check_sections-requires c =
    let U : List CertSection → Type 0 = λ ss. All (λ s. IsUsual s.section) ss in
    record { usual = subst U (sym c.sections.ensures) (all_usual c.args.c.now c.requires.grammar) }

pub returns-in_err-values-clause-fault : goal.returns-in_err-values-clause-fault
returns-in_err-values-clause-fault c =
    let set = c.in-Ok.task in
    let ss = c.sections.result.now in
    let cause : IfErr c.from_residual.result (SomeFailFor set ss) = search rules in
    IfErr-weaker c.from_residual.result _ _ (λ fault h. sections_refuse set c.args.f.now c.args.b.now c.args.t c.args.c.now c.in-Ok.ensures fault ss c.sections.ensures h) cause

pub returns-in_err-check_last-clause-fault : goal.returns-in_err-check_last-clause-fault
returns-in_err-check_last-clause-fault c =
    let set = c.in-Ok.task in
    let valued = c.in_ok-values.values.valued in
    let cause : IfErr c.from_residual-in_err-check_last.result (LastFailsFor set valued c.args.c.now) = search rules in
    IfErr-weaker c.from_residual-in_err-check_last.result _ _
    (λ fault h. last_refuses set c.args.f.now c.args.b.now c.args.t c.args.c.now c.in-Ok.ensures c.sections.result.now c.sections.ensures valued c.in_ok-values.ensures.met fault h) cause

pub new-requires-2-clause-meets : goal.new-requires-2-clause-meets
new-requires-2-clause-meets c =
    all_meet c.in-Ok.task c.args.f.now c.args.b.now c.args.t c.args.c.now c.in-Ok.ensures c.sections.result.now c.sections.ensures c.in_ok-values.values.valued c.in_ok-values.ensures.met c.in_ok-check_last.ensures.met

use Rattle.std.proofs.Common.{length, ap, sym, ◌∙◌, subst, rules}
use Rattle.std.specs.Result.{IfErr}
use Rattle.std.proofs.lemmas.Result.{IfErr-weaker}
use Rattle.certificates.specs.declared.cert.CertSection.{CertSection}
use Rattle.method_flow.specs.Flow.{Flow}
use Rattle.cert_checker.specs.Setting.{SectionValues}
use Rattle.cert_checker.specs.Section.{IsUsual, FailsFor}
use Rattle.cert_checker.proofs.Concluding.{sections_more, section_fails, all_sections}
use Rattle.cert_checker.proofs.sections.check_sections.Goals as goal

pub loop-s-init : goal.loop-s-init
loop-s-init c = record {
  long = ap (λ (v : SectionValues). v.methods) c.in-Ok.ensures ∙ c.method_count.ensures.count ∙ ap (λ (f : Flow). length f.methods) c.flow.ensures.flow;
  meet = λ P of. ap (λ (v : SectionValues). v.valued) c.in-Ok.ensures;
}

pub add_section-requires-clause-usual : goal.add_section-requires-clause-usual
add_section-requires-clause-usual c =
    let U : CertSection → Type 0 = λ s. IsUsual s.section in
    subst U (sym c.s-item.is) (c.requires.usual c.loop-s.s-index c.s-item.result c.loop-s-test.true)

pub returns-in_err-add_section-clause-fails : goal.returns-in_err-add_section-clause-fails
returns-in_err-add_section-clause-fails c =
    let set = c.args.task.now in
    let s = c.s-item.result in
    let valued = c.loop-s.values.valued in
    let cause : IfErr c.from_residual.result (FailsFor set valued s) = search rules in
    IfErr-weaker c.from_residual.result _ _ (λ fault h. section_fails set c.args.sections.now c.loop-s.s-index s valued fault c.loop-s-test.true c.s-item.is c.loop-s.invariant.meet h) cause

pub loop-s-preserved : goal.loop-s-preserved
loop-s-preserved c =
    let met = c.in_ok-add_section.ensures.met in
    record {
      long = ap (λ (v : SectionValues). v.methods) met.added ∙ c.loop-s.invariant.long;
      meet = sections_more c.one_more_meets.ensures c.args.task.now c.args.sections.now c.loop-s.s-index c.s-item.result c.loop-s.values c.add_section.new.values c.loop-s-test.true c.s-item.is c.loop-s.invariant.meet met;
    }

pub returns-clause-met : goal.returns-clause-met
returns-clause-met c = all_sections c.args.task.now c.args.sections.now c.loop-s.s-index c.loop-s.values.valued c.loop-s-test.false c.loop-s.invariant.meet

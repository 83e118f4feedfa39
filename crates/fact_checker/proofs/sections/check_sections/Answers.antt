use Rattle.std.proofs.Common.{length, ap, ◌∙◌, rules, arith}
use Rattle.std.specs.Result.{IfErr}
use Rattle.std.proofs.lemmas.Result.{IfErr-weaker}
use Rattle.method_flow.specs.Flow.{Flow}
use Rattle.cert_checker.specs.Setting.{SectionValues}
use Rattle.fact_rules.specs.Conditions.{sections_of}
use Rattle.fact_checker.specs.Known.{pricing}
use Rattle.fact_checker.specs.Section.{PricedFailsFor}
use Rattle.fact_rules.proofs.Pricing.{length_with_prices}
use Rattle.fact_checker.proofs.Concluding.{sections_more, section_fails, all_sections}
use Rattle.fact_checker.proofs.Sectioning.{section_below, section_is, section_usual}
use Rattle.fact_checker.proofs.sections.check_sections.Goals as goal

pub loop-i-init : goal.loop-i-init
loop-i-init c = record {
  long = ap (λ (v : SectionValues). v.methods) c.in-Ok.ensures ∙ c.method_count.ensures.count ∙ ap (λ (f : Flow). length f.methods) c.flow.ensures.flow;
  meet = λ P of. ap (λ (v : SectionValues). v.valued) c.in-Ok.ensures;
}

pub section-requires : goal.section-requires
section-requires c = let below = c.loop-i-test.true in omega (arith, c.loop-i.auto)

pub add_section-requires-clause-usual : goal.add_section-requires-clause-usual
add_section-requires-clause-usual c =
    let k = c.args.known.now.certificate in
    section_usual k.plain.sections k.prices c.loop-i.i c.section.result c.section.ensures c.requires.usual

pub returns-in_err-add_section-clause-fails : goal.returns-in_err-add_section-clause-fails
returns-in_err-add_section-clause-fails c =
    let set = c.args.task.now in
    let k = c.args.known.now.certificate in
    let q = pricing c.args.known.now in
    let s = c.section.result in
    let valued = c.loop-i.values.valued in
    let cause : IfErr c.from_residual.result (PricedFailsFor set q valued s) = search rules in
    IfErr-weaker c.from_residual.result _ _
    (λ fault h. section_fails set q (sections_of k) c.loop-i.i s valued fault (section_below k.plain.sections k.prices c.loop-i.i s c.section.ensures) (section_is k.plain.sections k.prices c.loop-i.i s c.section.ensures)
    c.loop-i.invariant.meet h)
    cause

pub loop-i-preserved : goal.loop-i-preserved
loop-i-preserved c =
    let met = c.in_ok-add_section.ensures.met in
    let k = c.args.known.now.certificate in
    let s = c.section.result in
    record {
      long = ap (λ (v : SectionValues). v.methods) met.added ∙ c.loop-i.invariant.long;
      meet = sections_more c.args.task.now (pricing c.args.known.now) (sections_of k) c.one_more_meets_priced.ensures c.loop-i.i s c.loop-i.values c.add_section.new.values
          (section_below k.plain.sections k.prices c.loop-i.i s c.section.ensures) (section_is k.plain.sections k.prices c.loop-i.i s c.section.ensures) c.loop-i.invariant.meet met;
    }

pub returns-clause-met : goal.returns-clause-met
returns-clause-met c =
    let k = c.args.known.now.certificate in
    let long = length_with_prices k.plain.sections k.prices in
    let past = c.loop-i-test.false in
    all_sections c.args.task.now (pricing c.args.known.now) (sections_of k) c.loop-i.i c.loop-i.values.valued (omega (arith, long, past)) c.loop-i.invariant.meet

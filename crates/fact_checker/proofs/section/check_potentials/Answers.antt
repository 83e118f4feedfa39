use Rattle.std.proofs.Common.{sym, ap, ◌∙◌, subst, IfOk}
use Rattle.bytecode_model.specs.Program.{Program}
use Rattle.method_flow.specs.Flow.{IsFlowOf}
use Rattle.fact_rules.specs.Pricing.{PricedSection, own_facts}
use Rattle.fact_checker.specs.Known.{pricing}
use Rattle.fact_checker.specs.Section.{PricedAnswersFor}
use Rattle.fact_checker.proofs.Answering.{answers_for}
use Rattle.fact_checker.proofs.section.check_potentials.Goals as goal

pub returns : goal.returns
returns c =
    let set = c.args.task.now in
    let q = pricing c.args.known.now in
    let p = c.args.p.now in
    let s : PricedSection = record { plain = c.s.inside.plain.now; prices = c.s.inside.prices.now } in
    let own = c.as_slice.ensures.facts ∙ (c.in_ok-own.ensures ∙ ap (own_facts q.facts) (sym c.s.view_is)) in
    let A : PricedSection → Type 0 = λ x. IfOk c.check_view.result (λ answer. (P : Program) → IsFlowOf P set.flow → PricedAnswersFor P set q x p answer) in
    subst A c.s.view_is
    (answers_for set q s p c.deref.result.now c.deref-2.result.now c.in_ok-loads.loads.items c.deref-3.result.now c.as_slice.result.now c.others.result.now c.check_view.result c.deref.ensures.value
    (c.deref-2.ensures.value ∙ c.in_ok-bounds.ensures) c.deref-3.ensures.value own c.others.ensures.facts c.in_ok-loads.ensures.each c.check_view.ensures)

use Rattle.std.proofs.Common.{◌≡◌, ℕ, pos, true, false, List, get_or, Option, Contains, sym, ap, ◌∙◌, subst, arith}
use Rattle.std.specs.Prelude.{◌-ℤ◌}
use Rattle.std.proofs.lemmas.Bool.{false≢true, false_from_ne_true}
use Rattle.std.proofs.lemmas.Int.{ints}
use Rattle.section_check.specs.Bounded.{holds}
use Rattle.section_check.specs.Section.{CertifiedLoop, PricedLoop, headed_fee, fee}
use Rattle.section_check.specs.Heading.{NoneHeads, IsFirstHeaded}
use Rattle.section_check.proofs.Elements.{contains_from_holds, holds_from_contains}
use Rattle.section_check.proofs.Headed.{price}
use Rattle.priced_sections.specs.Prices.{with_due}
use Rattle.priced_sections.specs.Views.{price_along, headed_in}
use Rattle.priced_sections.proofs.Headed.{headed_pays, headed_not, price_within, price_entering}
use Rattle.priced_sections.proofs.paying.edge_price.Goals as goal

pub returns-in_default-clause-value : goal.returns-in_default-clause-value
returns-in_default-clause-value c =
    let q = c.args.q.now in
    let P : List CertifiedLoop → Type 0 = λ zs. NoneHeads zs c.args.v in
    let none = headed_not q.facts.now q.section.now.loops q.bounds.now q.loads.now c.args.v (subst P c.loops.ensures c.in_default.ensures) in
    sym (ap (λ (o : Option PricedLoop). price_along o c.args.u) none)

pub returns-then-has-clause-value : goal.returns-then-has-clause-value
returns-then-has-clause-value c =
    let q = c.args.q.now in
    let i = c.in-Some.i in
    let l = c.index-loops-i.result in
    let P : List CertifiedLoop → Type 0 = λ zs. IsFirstHeaded zs c.args.v i in
    let Q : List CertifiedLoop → Type 0 = λ zs. l ≡ get_or zs i l in
    let form = c.requires.view.form in
    let headed = headed_pays q.facts.now q.section.now.loops q.bounds.now q.loads.now c.args.v i l form.bounded form.loaded (subst P c.loops.ensures c.in-Some.ensures) (subst Q c.loops-2.ensures c.index-loops-i.is) in
    let R : List ℕ → Type 0 = λ ms. Contains ms c.args.u in
    let inside : holds l.members c.args.u ≡ true = holds_from_contains l.members c.args.u (subst R c.members.ensures (c.has.ensures.0 c.if-has.true)) in
    let k = with_due q.facts.now (price l q.bounds.now q.loads.now i) in
    let e : price_along (headed_in q c.args.v) c.args.u ≡ pos 0 -ℤ pos l.iteration_cost = ap (λ (o : Option PricedLoop). price_along o c.args.u) headed ∙ price_within k c.args.u inside in
    omega (arith, ints, c.from.ensures, c.iteration_cost.ensures.value, c.iteration_cost.ensures.small)

pub returns-else-has-clause-value : goal.returns-else-has-clause-value
returns-else-has-clause-value c =
    let q = c.args.q.now in
    let i = c.in-Some.i in
    let l = c.index-loops-i.result in
    let P : List CertifiedLoop → Type 0 = λ zs. IsFirstHeaded zs c.args.v i in
    let Q : List CertifiedLoop → Type 0 = λ zs. l ≡ get_or zs i l in
    let form = c.requires.view.form in
    let first = subst P c.loops.ensures c.in-Some.ensures in
    let headed = headed_pays q.facts.now q.section.now.loops q.bounds.now q.loads.now c.args.v i l form.bounded form.loaded first (subst Q c.loops-2.ensures c.index-loops-i.is) in
    let R : List ℕ → Type 0 = λ ms. Contains ms c.args.u in
    let outside : holds l.members c.args.u ≡ false =
    false_from_ne_true (holds l.members c.args.u) (λ h. false≢true (sym c.if-has.false ∙ c.has.ensures.1 (subst R (sym c.members.ensures) (contains_from_holds l.members c.args.u h))))
    in
    let k = with_due q.facts.now (price l q.bounds.now q.loads.now i) in
    let e : price_along (headed_in q c.args.v) c.args.u ≡ pos (fee k) = ap (λ (o : Option PricedLoop). price_along o c.args.u) headed ∙ price_entering k c.args.u outside in
    let paid : get_or c.args.fees.now i 0 ≡ fee k = c.requires.fees.each c.args.v i first ∙ ap (λ (o : Option PricedLoop). headed_fee o) headed in
    omega (arith, ints, c.requires.fees.few i)

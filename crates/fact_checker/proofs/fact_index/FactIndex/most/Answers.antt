use Rattle.std.proofs.Common.{◌≡◌, ◌<◌, ℕ, List, length, get_or, Some, None, sym, ap, ◌∙◌, subst, rules, arith}
use Rattle.std.specs.Prelude.{option_map}
use Rattle.std.proofs.lemmas.Option.{slice_get-get_or}
use Rattle.flow_facts.specs.Facts.{CountFact, Facts}
use Rattle.fact_rules.specs.Pricing.{fact_at}
use Rattle.fact_checker.specs.Index.{is_same_scope}
use Rattle.fact_checker.proofs.Keys.{place_below, fact_found}
use Rattle.fact_checker.proofs.fact_index.FactIndex.most.Goals as goal

pub returns-in_err-place : goal.returns-in_err-place
returns-in_err-place c =
    let k = c.args.key.now in
    let none : c.from_residual.result ≡ None = search rules in
    let fs = c.self.inside.facts.now.counts in
    let absent = fact_found fs c.self.inside.places.entries k None c.self.invariant c.in_err-place.ensures.value in
    none
    ∙ (sym (ap (option_map (λ (f : CountFact). f.most)) absent)
    ∙ ap (λ (F : Facts). option_map (λ f. f.most) (fact_at F.counts k.method k.node (is_same_scope k.scope))) c.self.view_is)

pub bounds-counts-place : goal.bounds-counts-place
bounds-counts-place c =
    let place = c.in_ok-place.field-0.now in
    let below = place_below c.self.inside.facts.now.counts c.self.inside.places.entries c.args.key.now place c.self.invariant c.in_ok-place.ensures.value in
    subst (λ (xs : List CountFact). place < length xs) (sym c.counts.ensures) below

pub offset_bounds-counts-place : goal.offset_bounds-counts-place
offset_bounds-counts-place c =
    let place = c.in_ok-place.field-0.now in
    let below = place_below c.self.inside.facts.now.counts c.self.inside.places.entries c.args.key.now place c.self.invariant c.in_ok-place.ensures.value in
    let lt : place < length c.counts.result.now = subst (λ (xs : List CountFact). place < length xs) (sym c.counts.ensures) below in
    omega arith

pub returns : goal.returns
returns c =
    let k = c.args.key.now in
    let place = c.in_ok-place.field-0.now in
    let fs = c.self.inside.facts.now.counts in
    let r = c.index-counts-place.result in
    let below = place_below fs c.self.inside.places.entries k place c.self.invariant c.in_ok-place.ensures.value in
    let R : List CountFact → Type 0 = λ xs. r ≡ get_or xs place r in
    let is : r ≡ get_or fs place r = subst R c.counts.ensures c.index-counts-place.is in
    let at : fact_at fs k.method k.node (is_same_scope k.scope) ≡ Some r =
    fact_found fs c.self.inside.places.entries k (Some place) c.self.invariant c.in_ok-place.ensures.value ∙ (slice_get-get_or fs place r below ∙ ap (λ (x : CountFact). Some x) (sym is))
    in
    ap (λ (n : ℕ). Some n) c.most.ensures
    ∙ (sym (ap (option_map (λ (f : CountFact). f.most)) at)
    ∙ ap (λ (F : Facts). option_map (λ f. f.most) (fact_at F.counts k.method k.node (is_same_scope k.scope))) c.self.view_is)

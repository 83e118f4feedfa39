use Rattle.std.proofs.Common.{◌≡◌, ℕ, ◌+◌, List, get_or, take, Option, IfErr, refl, sym, subst, rules}
use Rattle.std.proofs.lemmas.List.{take_all}
use Rattle.node_costs.specs.Costs.{bounds_of}
use Rattle.call_regions.proofs.Sorting.{if_err}
use Rattle.bound_rules.specs.declared.faults.BoundRefusal.{BoundRefusal}
use Rattle.bound_causes.specs.Causes.{AreSearched, IsIrreducibleAmong}
use Rattle.bound_causes.proofs.Gathering.{next_searched, irreducible_among}
use Rattle.bound_causes.proofs.lines.first_unbounded.Goals as goal

pub returns-in_err-place-clause-cause : goal.returns-in_err-place-clause-cause
returns-in_err-place-clause-cause c =
    let f = c.args.f.now in
    let all = c.args.methods.now in
    let i = c.loop-m.m-index in
    let m = get_or all i 0 in
    let fault = c.in_err-place.field-0.0 in
    let same : IfErr c.from_residual.result (λ e. e ≡ fault) = search rules in
    if_err c.from_residual.result (λ e. e ≡ fault) _
    (λ e is P flow.
    let C : BoundRefusal → Type 0 = λ x. IsIrreducibleAmong P all x in
    subst C (sym is) (irreducible_among P (bounds_of f c.args.b.now) all i m c.loop-m.found fault c.requires.rising c.loop-m-test.true refl (c.loop-m.invariant P flow) (c.in_err-place.ensures.cause P flow)))
    same

pub loop-m-preserved : goal.loop-m-preserved
loop-m-preserved c = λ P flow.
    let bounds = bounds_of c.args.f.now c.args.b.now in
    let all = c.args.methods.now in
    let i = c.loop-m.m-index in
    let Q : Option (ℕ × ℕ) → Type 0 = λ o. AreSearched P bounds (take (i + 1) all) o in
    subst Q (sym c.found_or-found.ensures)
    (next_searched P bounds all i (get_or all i 0) c.loop-m.found c.in_ok-place.place c.requires.rising c.loop-m-test.true refl (c.loop-m.invariant P flow) (c.in_ok-place.ensures.ok P flow))

pub returns-clause-ok : goal.returns-clause-ok
returns-clause-ok c = λ P flow.
    let bounds = bounds_of c.args.f.now c.args.b.now in
    let Q : List ℕ → Type 0 = λ ms. AreSearched P bounds ms c.loop-m.found in
    subst Q (take_all c.loop-m.m-index c.args.methods.now c.loop-m-test.false) (c.loop-m.invariant P flow)

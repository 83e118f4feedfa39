use Rattle.std.proofs.Common.{◌≡◌, ℕ, List, Option, is_none, refl, sym, ap, ◌∙◌, subst}
use Rattle.std.specs.Prelude.{find}
use Rattle.node_costs.specs.Costs.{bounds_of}
use Rattle.bound_causes.specs.declared.shapes.Shape.{Shape}
use Rattle.bound_causes.specs.Shapes.{IsShape}
use Rattle.bound_causes.specs.Causes.{IsUnboundedIn}
use Rattle.bound_causes.proofs.Telling.{first_place}
use Rattle.bound_causes.proofs.lines.unbounded_in.Goals as goal

pub returns-in-Ok-Reducible-clause-ok : goal.returns-in-Ok-Reducible-clause-ok
returns-in-Ok-Reducible-clause-ok c = λ P flow.
    let m = c.args.m in
    let f = c.args.f.now in
    let places = c.in-Ok-Reducible.places.items in
    let S : Shape → Type 0 = λ s. IsShape P m s in
    let shape = subst S c.in-Ok-Reducible.field-0-is (c.in-Ok-Reducible.ensures P m (flow.methods m c.method.result.now c.method.ensures)) in
    let test = λ (p : ℕ). is_none (bounds_of f c.args.b.now m p) in
    let found : c.first_without_line.result ≡ find test places = c.first_without_line.ensures ∙ ap (λ (ps : List ℕ). find test ps) c.deref.ensures.value in
    let Q : Option ℕ → Type 0 = λ o. IsUnboundedIn P (bounds_of f c.args.b.now) m o in
    subst Q (sym found) (first_place P (bounds_of f c.args.b.now) m places shape.1 shape.0)

pub returns-in-Ok-Irreducible-clause-cause : goal.returns-in-Ok-Irreducible-clause-cause
returns-in-Ok-Irreducible-clause-cause c = λ P flow.
    let m = c.args.m in
    let S : Shape → Type 0 = λ s. IsShape P m s in
    let shape = subst S c.in-Ok-Irreducible.field-0-is (c.in-Ok-Irreducible.ensures P m (flow.methods m c.method.result.now c.method.ensures)) in
    (refl, shape.0, shape.1)

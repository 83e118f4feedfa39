use Rattle.std.proofs.Common.{◌≡◌, ℕ, List, Vec, Global, refl, sym, ap, ◌∙◌, subst}
use Rattle.memory_rules.specs.declared.causes.NeedFault.TheVariants.{Irreducible}
use Rattle.memory_bound.specs.declared.shapes.ShapeFault.{ShapeFault}
use Rattle.memory_bound.specs.Shapes.{IsShapeFault}
use Rattle.memory_bound.specs.Needs.{IsShapeFaultOf}
use Rattle.memory_bound.proofs.Shaping.{left_none}
use Rattle.memory_bound.proofs.causes.check_shape.Goals as goal

pub returns-in-Err-Irreducible-clause-cause : goal.returns-in-Err-Irreducible-clause-cause
returns-in-Err-Irreducible-clause-cause c = λ P flow.
    let m = c.args.m in
    let nodes = c.in-Err-Irreducible.nodes in
    let coded = flow.methods m c.method.result.now c.method.ensures in
    let cause = subst (λ (e : ShapeFault). IsShapeFault P m e) c.in-Err-Irreducible.field-0-is (c.in-Err-Irreducible.ensures.cause P m coded) in
    let same : c.new.result ≡ nodes.items = c.new.ensures ∙ ap (λ (v : Vec ℕ Global). v.items) c.in-Err-Irreducible.nodes-is in
    subst (λ (ns : List ℕ). IsShapeFaultOf P m (Irreducible m ns)) (sym same) (refl, cause.0, cause.1)

pub returns-in-Ok-clause-ok : goal.returns-in-Ok-clause-ok
returns-in-Ok-clause-ok c = λ P flow.
    let m = c.args.m in
    left_none P m c.in-Ok.field-0 (c.in-Ok.ensures.shape P m (flow.methods m c.method.result.now c.method.ensures))

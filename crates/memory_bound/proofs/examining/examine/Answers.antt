use Rattle.std.proofs.Common.{◌≡◌, true, false, subst}
use Rattle.std.proofs.lemmas.Result.{IfOk-weaker}
use Rattle.memory_bound.specs.declared.shapes.ShapeFault.{ShapeFault}
use Rattle.memory_bound.specs.Shapes.{IsShapeFault}
use Rattle.memory_bound.proofs.Shaping.{left_none}
use Rattle.memory_bound.proofs.examining.examine.Goals as goal

pub returns-in-Ok-clause-reducible : goal.returns-in-Ok-clause-reducible
returns-in-Ok-clause-reducible c =
    IfOk-weaker c.examine_shape.result _ _
    (λ x is P flow told. left_none P c.args.m _ (c.in-Ok.ensures.shape P c.args.m (flow.methods c.args.m c.method.result.now c.method.ensures)))
    c.examine_shape.ensures

pub returns-in-Err-Irreducible-clause-reducible : goal.returns-in-Err-Irreducible-clause-reducible
returns-in-Err-Irreducible-clause-reducible c = λ P flow told. let never : false ≡ true = told in cc

pub returns-in-Err-Irreducible-clause-found : goal.returns-in-Err-Irreducible-clause-found
returns-in-Err-Irreducible-clause-found c = λ P flow sites none found.
    let m = c.args.m in
    let left = subst (λ (e : ShapeFault). IsShapeFault P m e) c.in-Err-Irreducible.field-0-is (c.in-Err-Irreducible.ensures.cause P m (flow.methods m c.method.result.now c.method.ensures)) in
    absurd (c.leaves_nodes_or_none.ensures P m _ left.0 left.1 none)

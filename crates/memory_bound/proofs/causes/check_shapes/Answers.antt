use Rattle.std.proofs.Common.{◌≡◌, [], IfErr, sym, subst, rules}
use Rattle.bound_rules.specs.Bounding.{IsLeftWith}
use Rattle.call_regions.proofs.Sorting.{if_err}
use Rattle.memory_rules.specs.declared.causes.NeedFault.{NeedFault}
use Rattle.memory_bound.specs.Needs.{IsShapesFault}
use Rattle.memory_bound.proofs.Ordered.{one_further, all_taken}
use Rattle.memory_bound.proofs.Answering.{fault_here}
use Rattle.memory_bound.proofs.causes.check_shapes.Goals as goal

pub loop-m-preserved : goal.loop-m-preserved
loop-m-preserved c = λ P flow.
    one_further (λ x. IsLeftWith P x []) c.args.methods.now c.loop-m.m-index c.loop-m-test.true (c.loop-m.invariant P flow) (c.in_ok-check_shape.ensures.ok P flow)

pub returns-clause-ok : goal.returns-clause-ok
returns-clause-ok c = λ P flow. all_taken (λ x. IsLeftWith P x []) c.args.methods.now c.loop-m.m-index c.loop-m-test.false (c.loop-m.invariant P flow)

pub returns-in_err-check_shape-clause-cause : goal.returns-in_err-check_shape-clause-cause
returns-in_err-check_shape-clause-cause c =
    let ms = c.args.methods.now in
    let fault = c.in_err-check_shape.field-0.0 in
    let same : IfErr c.from_residual.result (λ e. e ≡ fault) = search rules in
    if_err c.from_residual.result (λ e. e ≡ fault) _
    (λ e is P flow.
    subst (λ (x : NeedFault). IsShapesFault P ms x) (sym is)
    (fault_here ms c.loop-m.m-index c.requires.rising c.loop-m-test.true P fault (c.loop-m.invariant P flow) (c.in_err-check_shape.ensures.cause P flow)))
    same

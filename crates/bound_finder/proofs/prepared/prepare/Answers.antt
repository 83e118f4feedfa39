use Rattle.std.proofs.Common.{rules, ◌≡◌, List, length, sym, ap, ◌∙◌, subst}
use Rattle.std.specs.Prelude.{IfErr}
use Rattle.bound_rules.specs.declared.faults.BoundRefusal.{BoundRefusal}
use Rattle.std.proofs.lemmas.Result.{IfOk-weaker}
use Rattle.call_regions.proofs.Sorting.{if_err}
use Rattle.bound_finder.specs.declared.telling.Told.{Told}
use Rattle.bound_finder.specs.Prepared.{IsShapeWith, AreToldWith, HasNoShapeWith, AreMethodCosts}
use Rattle.bound_finder.proofs.Preparing.{prepared_ok, bounds_ok, unshaped, unbounded, told_with}
use Rattle.bound_finder.proofs.prepared.prepare.Goals as goal

pub method_shape-requires : goal.method_shape-requires
method_shape-requires c =
    let are = c.in-Ok.ensures.told in
    let with_all = told_with c.graphs_where_targets_end.ensures c.costs_are_limited.ensures c.args.task.now c.args.m c.args.table.now c.method.result.now c.in-Ok.told.items c.method.ensures c.calls.ensures.whole are in
    record { method = c.requires.method; told = ap length c.deref.ensures.value ∙ with_all.long }

pub prepare_with-requires : goal.prepare_with-requires
prepare_with-requires c =
    let set = c.args.task.now in
    let are = c.in-Ok.ensures.told in
    let with_all = told_with c.graphs_where_targets_end.ensures c.costs_are_limited.ensures set c.args.m c.args.table.now c.method.result.now c.in-Ok.told.items c.method.ensures c.calls.ensures.whole are in
    let S : List Told → Type 0 = λ ts. IsShapeWith set c.args.m ts c.in_ok-shape.shape in
    let T : List Told → Type 0 = λ ts. AreToldWith set c.args.m ts in
    record {
      method = c.requires.method;
      shape = subst S (c.deref.ensures.value ∙ sym c.deref-2.ensures.value) c.in_ok-shape.ensures.shape;
      told = subst T (sym c.deref-2.ensures.value) with_all;
    }

pub returns-in_err-shape-clause-cause : goal.returns-in_err-shape-clause-cause
returns-in_err-shape-clause-cause c =
    let set = c.args.task.now in
    let told = c.in-Ok.told.items in
    let fault : BoundRefusal = c.in_err-shape.field-0.0 in
    let same : IfErr c.from_residual.result (λ e. e ≡ fault) = search rules in
    let T : List Told → Type 0 = λ ts. HasNoShapeWith set c.args.m ts fault in
    let none = subst T c.deref.ensures.value c.in_err-shape.ensures.cause in
    if_err c.from_residual.result (λ e. e ≡ fault) _
    (λ e is. unshaped c.graphs_where_targets_end.ensures c.costs_are_limited.ensures set c.args.m c.args.table.now c.method.result.now told c.method.ensures c.calls.ensures.whole c.in-Ok.ensures.told e
    (let E : BoundRefusal → Type 0 = λ x. HasNoShapeWith set c.args.m told x in subst E (sym is) none))
    same

pub returns-clause-same : goal.returns-clause-same
returns-clause-same c = IfOk-weaker c.prepare_with.result _ _ (λ p same. same.1) c.prepare_with.ensures.same

pub returns-clause-bounds : goal.returns-clause-bounds
returns-clause-bounds c = bounds_ok c.args.task.now c.args.m c.in_ok-shape.shape c.args.fits c.prepare_with.result c.prepare_with.ensures.same c.prepare_with.ensures.bounds

pub returns-clause-prepared : goal.returns-clause-prepared
returns-clause-prepared c =
    let set = c.args.task.now in
    let told = c.in-Ok.told.items in
    let S : List Told → Type 0 = λ ts. IsShapeWith set c.args.m ts c.in_ok-shape.shape in
    let shape = subst S c.deref.ensures.value c.in_ok-shape.ensures.shape in
    let costs =
    IfOk-weaker c.prepare_with.result _ _
    (λ p are. let C : List Told → Type 0 = λ ts. AreMethodCosts set c.args.m c.in_ok-shape.shape c.args.fits p.charges.flags.items ts p.costs.items in subst C c.deref-2.ensures.value are) c.prepare_with.ensures.costs
    in
    prepared_ok c.graphs_where_targets_end.ensures c.costs_are_limited.ensures set c.args.m c.args.table.now c.method.result.now told c.method.ensures c.calls.ensures.whole c.in-Ok.ensures.told
    c.in_ok-shape.shape c.args.fits shape c.requires.fits c.prepare_with.result c.prepare_with.ensures.same c.prepare_with.ensures.bounds c.prepare_with.ensures.charges costs

pub returns-clause-cause : goal.returns-clause-cause
returns-clause-cause c =
    let set = c.args.task.now in
    let told = c.in-Ok.told.items in
    let S : List Told → Type 0 = λ ts. IsShapeWith set c.args.m ts c.in_ok-shape.shape in
    let shape = subst S c.deref.ensures.value c.in_ok-shape.ensures.shape in
    if_err c.prepare_with.result _ _
    (λ e is. unbounded c.graphs_where_targets_end.ensures c.costs_are_limited.ensures set c.args.m c.args.table.now c.method.result.now told c.method.ensures c.calls.ensures.whole c.in-Ok.ensures.told c.in_ok-shape.shape e shape is)
    c.prepare_with.ensures.cause

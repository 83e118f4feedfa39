use Rattle.std.proofs.Common.{◌≡◌, ℕ, ◌<◌, List, length, All, IfErr, sym, ap, ◌∙◌, subst, rules}
use Rattle.std.proofs.lemmas.List.Sorted.{All-permutation, Contains-permutation, IsPermutation-sym}
use Rattle.method_flow.specs.Flow.{Flow, IsFlowOf}
use Rattle.call_regions.proofs.Sorting.{if_err}
use Rattle.memory_rules.specs.declared.causes.NeedFault.{NeedFault}
use Rattle.memory_rules.specs.declared.causes.NeedFault.TheVariants.{NoMemory}
use Rattle.memory_bound.specs.declared.found.Found.{Found}
use Rattle.memory_bound.specs.Found.{found_at}
use Rattle.memory_bound.specs.Examined.{TellsReducible}
use Rattle.memory_bound.specs.Needs.{IsShapesFault}
use Rattle.memory_bound.proofs.causes.examined.Goals as goal

pub returns-in_err-table-clause-cause : goal.returns-in_err-table-clause-cause
returns-in_err-table-clause-cause c =
    let same : IfErr c.from_residual.result (λ e. e ≡ NoMemory) = search rules in
    if_err c.from_residual.result (λ e. e ≡ NoMemory) _
    (λ e is P flow. subst (λ (x : NeedFault). IsShapesFault P c.args.methods.now x) (sym is) tt)
    same

pub check_shapes-requires-clause-known : goal.check_shapes-requires-clause-known
check_shapes-requires-clause-known c =
    let f = c.args.task.now.flow in
    let all = All-permutation (λ (m : ℕ). m < length f.methods) c.args.order.now c.args.methods.now c.requires.methods c.requires.order in
    subst (λ (g : Flow). All (λ (m : ℕ). m < length g.methods) c.args.methods.now) (sym c.flow.ensures.flow) all

pub check_shapes-requires-clause-long : goal.check_shapes-requires-clause-long
check_shapes-requires-clause-long c =
    ap length c.deref.ensures.value ∙ c.in_ok-table.ensures.long ∙ ap (λ (f : Flow). length f.methods) (sym c.flow.ensures.flow)

pub check_shapes-requires-clause-told : goal.check_shapes-requires-clause-told
check_shapes-requires-clause-told c = λ P flow m has.
    let told = subst (λ (f : Flow). IsFlowOf P f) c.flow.ensures.flow flow in
    let among = Contains-permutation c.args.methods.now c.args.order.now m (IsPermutation-sym c.args.order.now c.args.methods.now c.requires.methods) has in
    subst (λ (t : List Found). TellsReducible P m (found_at t m)) (sym c.deref.ensures.value) (c.in_ok-table.ensures.reducible P told m among)

pub returns-in_err-check_shapes-clause-cause : goal.returns-in_err-check_shapes-clause-cause
returns-in_err-check_shapes-clause-cause c =
    let ms = c.args.methods.now in
    let result = c.from_residual-in_err-check_shapes.result in
    let fault = c.in_err-check_shapes.field-0.0 in
    let same : IfErr result (λ e. e ≡ fault) = search rules in
    if_err result (λ e. e ≡ fault) _
    (λ e is P flow.
    let told = subst (λ (f : Flow). IsFlowOf P f) (sym c.flow.ensures.flow) flow in
    subst (λ (x : NeedFault). IsShapesFault P ms x) (sym is) (c.in_err-check_shapes.ensures.cause P told))
    same

pub returns-clause-reducible : goal.returns-clause-reducible
returns-clause-reducible c = λ P flow. c.in_ok-check_shapes.ensures.ok P (subst (λ (f : Flow). IsFlowOf P f) (sym c.flow.ensures.flow) flow)

use Rattle.std.proofs.Common.{◌≡◌, ℕ, ◌^◌, ◌<◌, ◌≤◌, List, [], length, Contains, IfErr, sym, subst, rules, arith}
use Rattle.std.specs.List.Sorted.{IsStrictlyIncreasing, IsPermutation}
use Rattle.std.proofs.lemmas.Result.{IfOk-weaker}
use Rattle.std.proofs.lemmas.List.Sorted.{Contains-permutation}
use Rattle.method_flow.specs.Flow.{Flow}
use Rattle.method_flow.specs.Regions.{IsWithin}
use Rattle.node_costs.proofs.Loading.{few_members}
use Rattle.call_regions.proofs.Sorting.{if_err}
use Rattle.bound_rules.specs.Bounding.{IsLeftWith}
use Rattle.memory_rules.specs.declared.causes.NeedFault.{NeedFault}
use Rattle.memory_rules.specs.declared.causes.NeedFault.TheVariants.{NoMemory}
use Rattle.memory_bound.specs.declared.found.Found.{Found}
use Rattle.memory_bound.specs.Setting.{bounds_in, lengths_in}
use Rattle.memory_bound.specs.Examined.{AreFoundIn}
use Rattle.memory_bound.specs.Causes.{IsNeedFault}
use Rattle.memory_bound.specs.Needs.{IsShapesFault}
use Rattle.memory_bound.proofs.Answering.{methods_are, no_recursion, of_shapes, of_found}
use Rattle.memory_bound.proofs.causes.need_in.Goals as goal

pub returns-in_err-methods-clause-cause : goal.returns-in_err-methods-clause-cause
returns-in_err-methods-clause-cause c =
    let task = c.args.task.now in
    let same : IfErr c.from_residual.result (λ e. e ≡ NoMemory) = search rules in
    if_err c.from_residual.result (λ e. e ≡ NoMemory) _
    (λ e is P flow sites first. subst (λ (x : NeedFault). IsNeedFault P (bounds_in task) (lengths_in task) x) (sym is) tt)
    same

pub examined-requires-clause-methods : goal.examined-requires-clause-methods
examined-requires-clause-methods c = subst (λ (ms : List ℕ). IsPermutation c.args.order.now ms) (sym c.deref.ensures.value) c.in_ok-methods.ensures.0

pub examined-requires-clause-rising : goal.examined-requires-clause-rising
examined-requires-clause-rising c = subst (λ (ms : List ℕ). IsStrictlyIncreasing ms) (sym c.deref.ensures.value) c.in_ok-methods.ensures.1

pub returns-in_err-table-clause-cause : goal.returns-in_err-table-clause-cause
returns-in_err-table-clause-cause c =
    let task = c.args.task.now in
    let order = c.args.order.now in
    let sorted = c.in_ok-methods.methods.items in
    let result = c.from_residual-in_err-table.result in
    let fault = c.in_err-table.field-0.0 in
    let same : IfErr result (λ e. e ≡ fault) = search rules in
    if_err result (λ e. e ≡ fault) _
    (λ e is P flow sites first.
    let cause = subst (λ (ms : List ℕ). IsShapesFault P ms fault) c.deref.ensures.value (c.in_err-table.ensures.cause P flow) in
    let none = no_recursion c.order_excludes_cycles.ensures P P.boot order first in
    let are = methods_are (IsWithin P P.boot) order sorted first.methods c.in_ok-methods.ensures.0 in
    subst (λ (x : NeedFault). IsNeedFault P (bounds_in task) (lengths_in task) x) (sym is) (of_shapes P (bounds_in task) (lengths_in task) none sorted are fault cause))
    same

pub need_found-requires-clause-found : goal.need_found-requires-clause-found
need_found-requires-clause-found c = subst (λ (t : List Found). AreFoundIn c.args.task.now c.args.order.now t) (sym c.deref-3.ensures.value) c.in_ok-table.ensures.found

pub need_found-requires-clause-few : goal.need_found-requires-clause-few
need_found-requires-clause-few c =
    let f = c.args.task.now.flow in
    let few : length f.methods < 2 ^ 32 = subst (λ (g : Flow). length g.methods < 2 ^ 32) c.flow.ensures.flow c.method_count.ensures.form.few in
    let all : length c.args.order.now ≤ length f.methods = few_members c.args.order.now (length f.methods) c.requires.0 c.requires.1 in
    omega arith

pub returns-clause-need : goal.returns-clause-need
returns-clause-need c =
    IfOk-weaker c.need_found.result _ _
    (λ n is P flow sites first.
    let left : (m : ℕ) → Contains c.args.order.now m → IsLeftWith P m [] =
    λ m has. c.in_ok-table.ensures.reducible P flow m
    (subst (λ (ms : List ℕ). Contains ms m) (sym c.deref.ensures.value) (Contains-permutation c.args.order.now c.in_ok-methods.methods.items m c.in_ok-methods.ensures.0 has)) in
    is P flow sites first left (no_recursion c.order_excludes_cycles.ensures P P.boot c.args.order.now first))
    c.need_found.ensures.need

pub returns-clause-cause : goal.returns-clause-cause
returns-clause-cause c =
    let task = c.args.task.now in
    let order = c.args.order.now in
    if_err c.need_found.result _ _
    (λ e is P flow sites first.
    let left : (m : ℕ) → Contains c.args.order.now m → IsLeftWith P m [] =
    λ m has. c.in_ok-table.ensures.reducible P flow m
    (subst (λ (ms : List ℕ). Contains ms m) (sym c.deref.ensures.value) (Contains-permutation c.args.order.now c.in_ok-methods.methods.items m c.in_ok-methods.ensures.0 has)) in
    let none = no_recursion c.order_excludes_cycles.ensures P P.boot order first in
    of_found P (bounds_in task) (lengths_in task) none (λ m within. left m ((first.methods.each m).1 within)) e (is P flow sites first left))
    c.need_found.ensures.cause

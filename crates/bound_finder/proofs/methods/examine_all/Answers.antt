use Rattle.std.proofs.Common.{ℕ, List, length, get_or, take, sym, ap, ◌∙◌, subst, rules, arith}
use Rattle.std.specs.Prelude.{IfErr}
use Rattle.std.proofs.lemmas.List.{get_or_default, take_more}
use Rattle.std.proofs.lemmas.Result.{IfErr-weaker}
use Rattle.method_flow.specs.Flow.{Flow}
use Rattle.bound_finder.specs.Methods.{AreMethodsFound, IsUnready}
use Rattle.bound_finder.proofs.MoreFound.{found_more}
use Rattle.bound_finder.proofs.Finding.{none_found, taken_apart, only_memory}
use Rattle.bound_finder.proofs.methods.examine_all.Goals as goal

pub loop-m-init : goal.loop-m-init
loop-m-init c =
    let none = c.in-Ok.ensures in
    none_found c.args.task.now c.method_count.result c.in-Ok.all none.0 none.1 none.2 (c.method_count.ensures.count ∙ ap (λ (f : Flow). length f.methods) c.flow.ensures)

pub returns-in_err-find-clause-cause : goal.returns-in_err-find-clause-cause
returns-in_err-find-clause-cause c =
    let set = c.args.task.now in
    let order = c.args.order.now in
    let i = c.loop-m.m-index in
    let m = get_or order i 0 in
    let cause : IfErr c.from_residual.result (IsUnready set c.loop-m.all.table.items m) = search rules in
    IfErr-weaker c.from_residual.result _ _ (λ fault h. only_memory order i c.loop-m-test.true c.ready_has_shape.ensures set c.loop-m.all c.loop-m.invariant m (get_or_default order i 0 m c.loop-m-test.true) fault h) cause

pub loop-m-preserved : goal.loop-m-preserved
loop-m-preserved c =
    let set = c.args.task.now in
    let order = c.args.order.now in
    let i = c.loop-m.m-index in
    let m = get_or order i 0 in
    let before = take i order in
    let next = c.in_ok-find.ensures.found in
    let known = c.requires.known i 0 c.loop-m-test.true in
    let long = c.loop-m.invariant.long in
    let M : List ℕ → Type 0 = λ ms. AreMethodsFound set ms c.find.new.all in
    subst M (sym (take_more order i 0 c.loop-m-test.true))
    (found_more c.one_more_meets.ensures set before m c.loop-m.all c.find.new.all (taken_apart order i c.loop-m-test.true m (get_or_default order i 0 m c.loop-m-test.true) c.requires.distinct) (omega arith) c.loop-m.invariant next.found next.is next.adds)

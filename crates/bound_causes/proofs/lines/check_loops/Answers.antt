use Rattle.std.proofs.Common.{◌≡◌, ℕ, Option, IfErr, sym, subst, rules}
use Rattle.node_costs.specs.Costs.{bounds_of}
use Rattle.call_regions.proofs.Sorting.{if_err}
use Rattle.bound_rules.specs.declared.faults.BoundRefusal.{BoundRefusal}
use Rattle.bound_causes.specs.Causes.{IsLoopCause, AreSearched}
use Rattle.bound_causes.proofs.Gathering.{all_reducible, have_lines, first_lacking, loop_cause}
use Rattle.bound_causes.proofs.lines.check_loops.Goals as goal

pub returns-in_err-m-clause-cause : goal.returns-in_err-m-clause-cause
returns-in_err-m-clause-cause c =
    let f = c.args.f.now in
    let all = c.args.methods.now in
    let fault = c.in_err-m.field-0.0 in
    let same : IfErr c.from_residual.result (λ e. e ≡ fault) = search rules in
    if_err c.from_residual.result (λ e. e ≡ fault) _
    (λ e is P root flow methods.
    let C : BoundRefusal → Type 0 = λ x. IsLoopCause P (bounds_of f c.args.b.now) root x in
    subst C (sym is) (loop_cause P (bounds_of f c.args.b.now) root all methods fault (c.in_err-m.ensures.cause P flow)))
    same

pub returns-in-Some-clause-cause : goal.returns-in-Some-clause-cause
returns-in-Some-clause-cause c = λ P root flow methods.
    let bounds = bounds_of c.args.f.now c.args.b.now in
    let all = c.args.methods.now in
    let Q : Option (ℕ × ℕ) → Type 0 = λ o. AreSearched P bounds all o in
    let searched = subst Q c.in-Some.is (c.in_ok-m.ensures.ok P flow) in
    (all_reducible P bounds root all methods _ searched, first_lacking P bounds root all methods (c.in-Some.m, c.in-Some.place) searched)

pub returns-in-None-clause-ok : goal.returns-in-None-clause-ok
returns-in-None-clause-ok c = λ P root flow methods.
    let bounds = bounds_of c.args.f.now c.args.b.now in
    let all = c.args.methods.now in
    let Q : Option (ℕ × ℕ) → Type 0 = λ o. AreSearched P bounds all o in
    let searched = subst Q c.in-None.is (c.in_ok-m.ensures.ok P flow) in
    (all_reducible P bounds root all methods _ searched, have_lines P bounds root all methods searched)

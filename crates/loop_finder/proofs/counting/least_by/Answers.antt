use Rattle.std.proofs.Common.{ℕ, sym, subst}
use Rattle.std.proofs.lemmas.Bool.{both_ways}
use Rattle.loop_rules.specs.Iterations.{IsOnEachIteration}
use Rattle.loop_marks.specs.Marking.{IsWithout}
use Rattle.loop_finder.proofs.Choosing.{none_on_iteration}
use Rattle.loop_finder.proofs.counting.least_by.Goals as goal

pub returns-then-not-is_on_each_iteration : goal.returns-then-not-is_on_each_iteration
returns-then-not-is_on_each_iteration c marks without_test without_step =
    let g = c.args.routes.now in
    let h = c.args.marks.now.header in
    let r = c.is_on_each_iteration in
    let told = r.ensures marks (subst (λ (u : ℕ). IsWithout g h u c.args.without_test.now.items) (sym c.node_at.ensures) without_test) in
    none_on_iteration g h c.args.choice (λ test step. both_ways r.result c.if-not-is_on_each_iteration.true (told.1 (subst (λ (u : ℕ). IsOnEachIteration g h u) (sym c.node_at.ensures) test)))

pub returns-then-not-is_on_each_iteration-2 : goal.returns-then-not-is_on_each_iteration-2
returns-then-not-is_on_each_iteration-2 c marks without_test without_step =
    let g = c.args.routes.now in
    let h = c.args.marks.now.header in
    let r = c.is_on_each_iteration-2 in
    let told = r.ensures marks (subst (λ (u : ℕ). IsWithout g h u c.args.without_step.now.items) (sym c.node_at-2.ensures) without_step) in
    none_on_iteration g h c.args.choice (λ test step. both_ways r.result c.if-not-is_on_each_iteration-2.true (told.1 (subst (λ (u : ℕ). IsOnEachIteration g h u) (sym c.node_at-2.ensures) step)))

pub returns : goal.returns
returns c marks without_test without_step =
    let g = c.args.routes.now in
    let h = c.args.marks.now.header in
    let k = c.args.choice in
    let test = (c.is_on_each_iteration.ensures marks (subst (λ (u : ℕ). IsWithout g h u c.args.without_test.now.items) (sym c.node_at.ensures) without_test)).0 c.if-not-is_on_each_iteration.false in
    let step = (c.is_on_each_iteration-2.ensures marks (subst (λ (u : ℕ). IsWithout g h u c.args.without_step.now.items) (sym c.node_at-2.ensures) without_step)).0 c.if-not-is_on_each_iteration-2.false in
    c.least_on_iterations.ensures g h (subst (λ (u : ℕ). IsOnEachIteration g h u) c.node_at.ensures test) (subst (λ (u : ℕ). IsOnEachIteration g h u) c.node_at-2.ensures step) without_test without_step

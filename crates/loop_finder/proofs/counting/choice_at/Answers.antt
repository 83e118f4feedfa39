use Rattle.std.proofs.Common.{◌≡◌, ℕ, ◌*◌, ◌<◌, ℤ, w32, to_z, of_z, List, Option, sym, ◌∙◌, subst, arith}
use Rattle.std.proofs.lemmas.Int.{ints}
use Rattle.std.proofs.lemmas.List.Elements.{All-contains}
use Rattle.loop_finder.specs.declared.counting.Choice.{Choice}
use Rattle.loop_acts.specs.Writing.{AreWriters}
use Rattle.loop_finder.specs.Counting.{IsChoiceAt, IsOnlyChoice}
use Rattle.loop_finder.proofs.Choices.{no_leaving, no_step, no_begin, one_choice}
use Rattle.loop_finder.proofs.counting.choice_at.Goals as goal

pub returns-in_err-out-clause-choice : goal.returns-in_err-out-clause-choice
returns-in_err-out-clause-choice c marks before =
    let b = c.args.body.now in
    let h = c.args.marks.now.header in
    subst (λ (o : Option Choice). IsChoiceAt b h c.args.place o) (sym c.from_residual.ensures) (no_leaving b h c.args.place c.args.test c.requires.test (c.in_err-out.ensures b.graph marks))

pub returns-in_err-step-clause-choice : goal.returns-in_err-step-clause-choice
returns-in_err-step-clause-choice c marks before =
    let b = c.args.body.now in
    let h = c.args.marks.now.header in
    subst (λ (o : Option Choice). IsChoiceAt b h c.args.place o) (sym c.from_residual-in_err-step.ensures) (no_step b h c.args.place c.args.test c.requires.test (c.in_err-step.ensures.step c.args.marks.now marks (subst (λ (us : List ℕ). AreWriters b.acts c.args.marks.now.nodes us) (sym c.deref.ensures.value) c.requires.writers)))

pub returns-in_err-begin-clause-choice : goal.returns-in_err-begin-clause-choice
returns-in_err-begin-clause-choice c marks before =
    let b = c.args.body.now in
    let h = c.args.marks.now.header in
    subst (λ (o : Option Choice). IsChoiceAt b h c.args.place o) (sym c.from_residual-in_err-begin.ensures) (no_begin b h c.args.place c.args.test c.requires.test (c.in_err-begin.ensures before))

pub returns-clause-choice : goal.returns-clause-choice
returns-clause-choice c marks before =
    let b = c.args.body.now in
    let h = c.args.marks.now.header in
    let begin = c.in_ok-begin.begin in
    let set = c.in_ok-begin.ensures before in
    let step = c.in_ok-step.step in
    let out = c.in_ok-out.out in
    let test = c.args.test in
    let is = one_choice b h c.args.place test c.requires.test out step c.in_ok-step.by begin (c.in_ok-out.ensures b.graph marks) (c.in_ok-step.ensures.step c.args.marks.now marks (subst (λ (us : List ℕ). AreWriters b.acts c.args.marks.now.nodes us) (sym c.deref.ensures.value) c.requires.writers)) set in
    let by : to_z w32 (of_z w32 c.in_ok-step.by) ≡ c.in_ok-step.by = omega (arith, ints) in
    let first : to_z w32 (of_z w32 begin) ≡ begin = omega (arith, ints) in
    let limit : to_z w32 (of_z w32 test.limit) ≡ test.limit = omega (arith, ints) in
    subst (λ (z : ℤ). IsOnlyChoice b h c.args.place (record { test = c.args.place; step = step; by = z; begin = to_z w32 (of_z w32 begin); out = out; limit = to_z w32 (of_z w32 test.limit) })) (sym by)
    (subst (λ (z : ℤ). IsOnlyChoice b h c.args.place (record { test = c.args.place; step = step; by = c.in_ok-step.by; begin = z; out = out; limit = to_z w32 (of_z w32 test.limit) })) (sym first)
    (subst (λ (z : ℤ). IsOnlyChoice b h c.args.place (record { test = c.args.place; step = step; by = c.in_ok-step.by; begin = begin; out = out; limit = z })) (sym limit) is))

pub returns-clause-fit : goal.returns-clause-fit
returns-clause-fit c =
    let g = c.args.body.now.graph in
    let b = c.args.body.now in
    let fit = c.in_ok-step.ensures.fit c.args.marks.now.nodes (subst (λ (us : List ℕ). AreWriters b.acts c.args.marks.now.nodes us) (sym c.deref.ensures.value) c.requires.writers) in
    let by : to_z w32 (of_z w32 c.in_ok-step.by) ≡ c.in_ok-step.by = omega (arith, ints) in
    (c.requires.place, All-contains (λ (x : ℕ). x < g.nodes) c.args.marks.now.nodes (2 * c.in_ok-step.step) c.requires.sized.nodes fit.0, λ zero. fit.1 (sym by ∙ zero))

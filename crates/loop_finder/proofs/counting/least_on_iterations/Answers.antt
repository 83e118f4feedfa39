use Rattle.std.proofs.Common.{◌≡◌, ℕ, ◌*◌, Option, ℤ, ◌+ℤ◌, w64, to_z, of_z, sym, ap, ◌∙◌, subst, arith}
use Rattle.std.proofs.lemmas.Int.{ints}
use Rattle.std.specs.Prelude.{not}
use Rattle.section_check.specs.Least.{IsLeast}
use Rattle.loop_marks.specs.Reach.{flag_at}
use Rattle.loop_finder.specs.Counting.{CountsFor, IsFirstIf}
use Rattle.loop_finder.proofs.Choosing.{least_choice}
use Rattle.loop_finder.proofs.Choices.{flag_without}
use Rattle.loop_finder.proofs.counting.least_on_iterations.Goals as goal

pub returns : goal.returns
returns c g h each_test each_step without_test without_step =
    let k = c.args.choice in
    let test = c.is_flagged-test_first.result in
    let step = c.is_flagged-step_first.result in
    let test_is : test ≡ flag_at c.args.without_test.now.items (2 * k.step) = c.is_flagged-test_first.ensures.flag ∙ ap (λ (n : ℕ). flag_at c.args.without_test.now.items (2 * n)) c.from.ensures in
    let step_is : step ≡ flag_at c.args.without_step.now.items (2 * k.test) = c.is_flagged-step_first.ensures.flag ∙ ap (λ (n : ℕ). flag_at c.args.without_step.now.items (2 * n)) c.from-2.ensures in
    let begin : to_z w64 (of_z w64 c.from-begin.result) ≡ k.begin = omega (arith, ints, c.from-begin.ensures) in
    let next : to_z w64 (of_z w64 (to_z w64 (of_z w64 c.from-begin.result) +ℤ to_z w64 (of_z w64 c.from-3.result))) ≡ k.begin +ℤ k.by = omega (arith, ints, c.from-begin.ensures, c.from-3.ensures) in
    let first = subst (λ (z : ℤ). IsFirstIf (not test) z k c.first_if.result) begin c.first_if.ensures in
    let second = subst (λ (z : ℤ). IsFirstIf (not step) z k c.first_if-2.result) next c.first_if-2.ensures in
    subst (λ (o : Option ℕ). IsLeast (CountsFor g h k) o) (sym c.lesser.ensures)
    (least_choice g h k (not test) (not step) (flag_without g h (2 * k.test) (2 * k.step) c.args.without_test.now.items without_test test test_is) (flag_without g h (2 * k.step) (2 * k.test) c.args.without_step.now.items without_step step step_is) each_test each_step
    c.first_if.result c.first_if-2.result first second)

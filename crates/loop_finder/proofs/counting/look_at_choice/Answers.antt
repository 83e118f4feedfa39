use Rattle.std.proofs.Common.{ℕ, ◌*◌, subst}
use Rattle.std.proofs.lemmas.Result.{on_ok_weaker}
use Rattle.loop_rules.specs.Iterations.{IsOnEachIteration}
use Rattle.loop_marks.specs.Marking.{AreMarksOf, IsWithout}
use Rattle.loop_finder.specs.Counting.{CountsFor}
use Rattle.loop_finder.proofs.Known.{beside_none}
use Rattle.loop_finder.proofs.counting.look_at_choice.Goals as goal

pub returns-then-comes_back : goal.returns-then-comes_back
returns-then-comes_back c marks =
    let g = c.args.routes.now in
    let h = c.args.marks.now.header in
    let k = c.args.choice in
    let x = c.node_at.result in
    let back = c.if-comes_back.true in
    let is = c.in_ok-without_test.ensures marks in
    let out = subst (λ (u : ℕ). ¬ IsOnEachIteration g h u) c.node_at.ensures (c.comes_back.ensures.out x back is) in
    record {
      rest = λ old. c.comes_back.ensures.rest x back is;
      least = λ old. beside_none (CountsFor g h k) c.args.known.now.least (λ n counts. out counts.each_test);
    }

pub returns : goal.returns
returns c =
    let g = c.args.routes.now in
    let h = c.args.marks.now.header in
    let flags = c.in_ok-without_test.without_test.items in
    let test : AreMarksOf g c.args.marks.now → IsWithout g h (2 * c.args.choice.test) flags =
    λ marks. subst (λ (u : ℕ). IsWithout g h u flags) c.node_at.ensures (c.in_ok-without_test.ensures marks) in
    on_ok_weaker c.look_at_step.result (λ looked marks. looked marks (test marks)) c.look_at_step.ensures

use Rattle.std.proofs.Common.{ℕ, Option, sym, subst}
use Rattle.loop_rules.specs.Iterations.{IsOnEachIteration}
use Rattle.loop_marks.specs.Marking.{IsWithout}
use Rattle.loop_finder.specs.Counting.{CountsFor, IsLeastBeside}
use Rattle.loop_finder.proofs.Known.{beside, beside_none}
use Rattle.loop_finder.proofs.counting.look_at_step.Goals as goal

pub returns-then-comes_back : goal.returns-then-comes_back
returns-then-comes_back c marks without =
    let g = c.args.routes.now in
    let h = c.args.marks.now.header in
    let k = c.args.choice in
    let x = c.node_at.result in
    let back = c.if-comes_back.true in
    let is = c.in_ok-without_step.ensures marks in
    let out = subst (λ (u : ℕ). ¬ IsOnEachIteration g h u) c.node_at.ensures (c.comes_back.ensures.out x back is) in
    record {
      rest = λ old. c.comes_back.ensures.rest x back is;
      least = λ old. beside_none (CountsFor g h k) c.args.known.now.least (λ n counts. out counts.each_step);
    }

pub returns : goal.returns
returns c marks without =
    let g = c.args.routes.now in
    let h = c.args.marks.now.header in
    let k = c.args.choice in
    let known = c.args.known.now.least in
    let flags = c.in_ok-without_step.without_step.items in
    let step = subst (λ (u : ℕ). IsWithout g h u flags) c.node_at.ensures (c.in_ok-without_step.ensures marks) in
    record {
      rest = λ old. old;
      least = λ old. subst (λ (o : Option ℕ). IsLeastBeside known (CountsFor g h k) o) (sym c.lesser-known.ensures) (beside (CountsFor g h k) known c.least_by.result (c.least_by.ensures marks without step));
    }

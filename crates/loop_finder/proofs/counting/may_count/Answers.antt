use Rattle.std.proofs.Common.{ℕ, ◌*◌, sym, subst}
use Rattle.loop_rules.specs.Iterations.{IsOnEachIteration}
use Rattle.loop_finder.specs.Counting.{CountsFor, IsFirstOutEither}
use Rattle.loop_finder.proofs.Known.{beside_none, out_either, settled}
use Rattle.loop_finder.proofs.counting.may_count.Goals as goal

pub returns-then-is_settled : goal.returns-then-is_settled
returns-then-is_settled c off g h rest =
    let k = c.args.choice in
    settled (CountsFor g h k) (IsFirstOutEither k) c.args.known.now.least c.soonest.result (c.is_settled.ensures.0 c.if-is_settled.true) c.soonest.ensures (out_either g h k)

pub returns-then-may_be : goal.returns-then-may_be
returns-then-may_be c off g h rest =
    let k = c.args.choice in
    beside_none (CountsFor g h k) c.args.known.now.least (λ n counts. c.may_be-then-may_be.ensures off g h rest (subst (λ (p : ℕ). IsOnEachIteration g h (2 * p)) (sym c.from-then-may_be.ensures) counts.each_step))

pub returns-else-may_be : goal.returns-else-may_be
returns-else-may_be c off g h rest =
    let k = c.args.choice in
    beside_none (CountsFor g h k) c.args.known.now.least (λ n counts. c.may_be.ensures c.if-may_be.false g h rest (subst (λ (p : ℕ). IsOnEachIteration g h (2 * p)) (sym c.from.ensures) counts.each_test))

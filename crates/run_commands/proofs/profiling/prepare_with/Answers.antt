use Rattle.std.proofs.Common.{◌≡◌, ℕ, subst}
use Rattle.method_flow.specs.declared.timing.Timing.{Timing}
use Rattle.node_costs.specs.Costs as table
use Rattle.method_bounds.specs.Answers.{IsBoundAnswer}
use Rattle.run_follower.specs.Watch.Counting.{no_totals}
use Rattle.run_commands.proofs.profiling.prepare_with.Goals as goal

pub returns : goal.returns
returns c =
    record {
      flow = c.in_ok-flow.ensures.flow;
      names = c.in_ok-flow.ensures.names;
      long = c.in_ok-answers.ensures.long;
      each = λ P is m x at. subst (λ (t : Timing). IsBoundAnswer P t (table.bounds_of c.in_ok-flow.flow c.args.bounds.now) m x) c.timing_of.ensures (c.in_ok-answers.ensures.each P is m x at);
      totals = subst (λ (k : ℕ). c.in_ok-totals.totals ≡ no_totals k c.args.settings.now.stack) c.method_count.ensures.count c.in_ok-totals.ensures;
    }

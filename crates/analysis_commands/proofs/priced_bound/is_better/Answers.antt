use Rattle.std.proofs.Common.{sym, ◌∙◌}
use Rattle.analysis_commands.specs.PricedBounds.{MeetsOf}
use Rattle.analysis_commands.proofs.PricedBounding.{ok_met}
use Rattle.analysis_commands.proofs.priced_bound.is_better.Goals as goal

pub returns-then-is_below-clause-meets : goal.returns-then-is_below-clause-meets
returns-then-is_below-clause-meets c is =
    ok_met (MeetsOf c.args.analysis.now c.args.facts.now c.args.found.now) c.meets.result (sym c.is_ok.ensures.value ∙ is) c.meets.ensures.meets

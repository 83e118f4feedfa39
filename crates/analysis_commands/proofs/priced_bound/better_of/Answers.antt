use Rattle.std.proofs.Common.{refl}
use Rattle.analysis_commands.proofs.PricedBounding.{found_for}
use Rattle.analysis_commands.proofs.priced_bound.better_of.Goals as goal

pub returns-in-Some-clause-certificate : goal.returns-in-Some-clause-certificate
returns-in-Some-clause-certificate c =
    found_for c.args.analysis.now c.args.facts.now c.args.asked.now.root c.in-Some.found c.args.plain c.in-Some.ensures (c.if-is_better.ensures.meets refl) (c.if-is_better.ensures.below refl) c.requires.plain

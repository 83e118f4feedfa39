use Rattle.jop_cli.proofs.OnePlan as law
use Rattle.jop_cli.proofs.laws.plans_are_one.Goals as goal

pub returns : goal.returns
returns c = law.plans_are_one c.gives_one.ensures c.numbers_are_one.ensures.printed c.calls_end_without_recursion.ensures c.methods_have_code.ensures c.typed_methods_reach_starts.ensures

use Rattle.jop_cli.proofs.OneShapes as law
use Rattle.jop_cli.proofs.laws.shapes_are_one.Goals as goal

pub returns : goal.returns
returns c =
    law.shapes_are_one c.gives_one.ensures c.numbers_are_one.ensures.printed c.calls_end_without_recursion.ensures c.methods_have_code.ensures c.typed_methods_reach_starts.ensures
    c.refusals_are_one.ensures.none c.bounding_is_exact.ensures.names

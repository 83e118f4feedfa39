use Rattle.bound_laws.proofs.CompactOnes.{left_is_one}
use Rattle.answer_laws.proofs.OneAnswer as law
use Rattle.answer_laws.proofs.laws.answers_are_one.Goals as goal

pub returns : goal.returns
returns c =
    law.answers_are_one (left_is_one c.graphs_are_moved.ensures.graphs c.ends_are_one.ensures c.graphs_are_one.ensures.whole) c.numbers_exist.ensures c.numbers_are_one.ensures.printed
    c.calls_end_without_recursion.ensures c.methods_have_code.ensures c.typed_methods_reach_starts.ensures

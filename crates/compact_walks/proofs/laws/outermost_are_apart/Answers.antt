use Rattle.compact_walks.proofs.Charged.{outermost_are_apart, others_have_one_around}
use Rattle.compact_walks.proofs.laws.outermost_are_apart.Goals as goal

pub returns-clause-apart : goal.returns-clause-apart
returns-clause-apart c = outermost_are_apart

pub returns-clause-others : goal.returns-clause-others
returns-clause-others c = others_have_one_around c.headers_dominate_members.ensures c.loops_are_nested.ensures c.dominance_is_antisymmetric.ensures

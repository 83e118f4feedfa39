use Rattle.std.proofs.Common.{arith}
use Rattle.fact_bound.proofs.InText.{listed_small}
use Rattle.fact_bound.proofs.grammar.are_potentials.Goals as goal

pub returns-clause-places : goal.returns-clause-places
returns-clause-places c = λ _. listed_small c.args.nodes.now (λ k d lt. c.loop-i.invariant.places k d (omega arith))

use Rattle.std.proofs.Common.{arith}
use Rattle.fact_bound.proofs.InText.{sorts_apart}
use Rattle.fact_bound.proofs.grammar.are_apart.Goals as goal

pub returns : goal.returns
returns c = λ _. sorts_apart c.args.sections.now (λ j lt. c.loop-i.invariant j (omega arith))

use Rattle.std.proofs.Common.{arith}
use Rattle.fact_bound.proofs.InText.{headers_increasing}
use Rattle.fact_bound.proofs.grammar.headers_rise.Goals as goal

pub returns : goal.returns
returns c = λ _. headers_increasing c.args.loops.now (λ k d lt. c.loop-i.invariant k d (omega arith))

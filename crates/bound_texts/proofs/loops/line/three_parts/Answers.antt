use Rattle.bound_texts.proofs.LoopsLemmas.SplitLemmas.{three_spaces}
use Rattle.bound_texts.proofs.loops.line.three_parts.Goals as goal

pub returns-in-Some-clause-other : goal.returns-in-Some-clause-other
returns-in-Some-clause-other c =
    three_spaces c.args.line.now c.in_ok-first.rest.now c.in_ok-second.third.now c.in-Some.field-0.1.now c.in_ok-first.first.now c.in_ok-second.second.now c.in-Some.field-0.0.now
    c.in_ok-first.ensures c.in_ok-second.ensures c.in-Some.ensures

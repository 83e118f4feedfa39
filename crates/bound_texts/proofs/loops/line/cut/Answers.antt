use Rattle.bound_texts.proofs.LoopsLemmas.SplitLemmas.{cut_some, cut_none}
use Rattle.bound_texts.proofs.loops.line.cut.Goals as goal

pub returns-in-Some : goal.returns-in-Some
returns-in-Some c = cut_some c.args.text.now c.in-Some.end c.in-Some.ensures

pub returns-in-None : goal.returns-in-None
returns-in-None c = cut_none c.args.text.now c.in-None.ensures

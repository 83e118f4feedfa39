use Rattle.std.proofs.Common.{sym, ◌∙◌}
use Rattle.ascii_text.proofs.LineLemmas.{lines_of-slice, lines_of-last, length-cons_lt, filled}
use Rattle.ascii_text.proofs.pieces.LinesIterator.next.Goals as goal

pub returns-in-Some-clause-steps : goal.returns-in-Some-clause-steps
returns-in-Some-clause-steps c = sym c.self.view_is ∙ lines_of-slice c.self.inside.rest.now c.in-Some.end c.in-Some.ensures

pub returns-in-Some-clause-goes : goal.returns-in-Some-clause-goes
returns-in-Some-clause-goes c = record { on = λ fin. (tt, tt, length-cons_lt _ _ _ (returns-in-Some-clause-steps c)); keeps = tt; rests = λ fin. tt }

pub returns-in-None-clause-steps : goal.returns-in-None-clause-steps
returns-in-None-clause-steps c = sym c.self.view_is ∙ lines_of-last c.self.inside.rest.now (filled c.self.inside.rest.now c.if-is_empty.ensures) (sym c.in-None.ensures)

pub returns-in-None-clause-goes : goal.returns-in-None-clause-goes
returns-in-None-clause-goes c = record { on = λ fin. (tt, tt, length-cons_lt _ _ _ (returns-in-None-clause-steps c)); keeps = tt; rests = λ fin. tt }

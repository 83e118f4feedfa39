use Rattle.fact_bound.proofs.Tables.{fit_told}
use Rattle.fact_bound.proofs.methods.examine.Goals as goal

pub prepare-requires-clause-fits : goal.prepare-requires-clause-fits
prepare-requires-clause-fits c = λ P of. fit_told P c.args.task.now.timing c.args.m c.in_ok-fit.fit (c.in_ok-fit.ensures.fit P of)

use Rattle.std.proofs.Common.{inl, inr, refl}
use Rattle.std.proofs.lemmas.Bool.{both_ways}
use Rattle.fact_rules.proofs.callers.load_where_calling.Goals as goal

pub returns-then-may_call-clause-load : goal.returns-then-may_call-clause-load
returns-then-may_call-clause-load c =
    λ P of. inl ((c.may_call.ensures P of).0 c.if-may_call.true, c.load.ensures.of_program P c.args.m (of.methods c.args.m c.method.result.now c.method.ensures))

pub returns-else-may_call-clause-load : goal.returns-else-may_call-clause-load
returns-else-may_call-clause-load c = λ P of. inr (λ may. both_ways c.may_call.result c.if-may_call.false ((c.may_call.ensures P of).1 may), refl)

use Rattle.std.proofs.Common.{inr}
use Rattle.cert_checker.proofs.Answering.{missing_fails, prepared_meets, prepared_fails}
use Rattle.cert_checker.proofs.section.check_prepared.Goals as goal

pub returns-in-Some-clause-fails : goal.returns-in-Some-clause-fails
returns-in-Some-clause-fails c = λ P earlier of h. inr (missing_fails c.args.task.now c.args.s.now c.args.p.now c.in-Ok.answer c.requires.coded c.in-Ok.ensures c.in-Some.x c.in-Some.is P earlier of h)

pub returns-clause-met : goal.returns-clause-met
returns-clause-met c =
    prepared_meets c.args.task.now c.args.s.now c.args.p.now c.in-Ok.answer c.requires.coded c.in-Ok.ensures c.wrong_beside.result c.deref.result.now c.deref.ensures.value c.in_default-absent.is c.wrong_beside.ensures c.joined.result c.joined.ensures

pub returns-clause-fails : goal.returns-clause-fails
returns-clause-fails c =
    prepared_fails c.args.task.now c.args.s.now c.args.p.now c.in-Ok.answer c.requires.coded c.in-Ok.ensures c.wrong_beside.result c.deref.result.now c.deref.ensures.value c.in_default-absent.is c.wrong_beside.ensures c.joined.result c.joined.ensures

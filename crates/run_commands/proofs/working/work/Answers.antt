use Rattle.std.proofs.Common.{refl, inl, inr}
use Rattle.run_commands.proofs.Worked.{puts_front, puts_whole}
use Rattle.run_commands.proofs.working.work.Goals as goal

pub returns-in-Ok-put_all-clause-works : goal.returns-in-Ok-put_all-clause-works
returns-in-Ok-put_all-clause-works g c words files file_faults left read_faults watch = (
  inl (refl, puts_whole c.args.n c.in-Ok.line.items c.deref.result.now _ _ _ _ c.deref.ensures.value c.in-Ok.ensures.line c.in-Ok-put_all.ensures.all c.in-Ok-put_all.ensures.cause.later),
  record { words = refl; contents = λ k. refl; counts = λ k. refl; input = record { left = refl; read_faults = refl }; watch = refl },
)

pub returns-clause-works : goal.returns-clause-works
returns-clause-works g c words files file_faults left read_faults watch = (
  inr (inl (refl, puts_front c.args.n c.in-Ok.line.items c.deref.result.now _ _ _ _ c.deref.ensures.value c.in-Ok.ensures.line c.in-Err-put_all.ensures.front c.in-Err-put_all.ensures.cause.failed)),
  record { words = refl; contents = λ k. refl; counts = λ k. refl; input = record { left = refl; read_faults = refl }; watch = refl },
)

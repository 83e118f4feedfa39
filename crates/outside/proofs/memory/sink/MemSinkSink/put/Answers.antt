use Rattle.std.proofs.Common.{inl, refl}
use Rattle.outside.proofs.memory.sink.MemSinkSink.put.Goals as goal

pub returns-in-Err-clause-others : goal.returns-in-Err-clause-others
returns-in-Err-clause-others c = rw (← c.self.view_is, ← c.deref.ensures.value) (λ _. inl (c.in-Err.ensures.listed.0 refl))

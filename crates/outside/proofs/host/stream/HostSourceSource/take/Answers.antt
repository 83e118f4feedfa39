use Rattle.outside.proofs.Known.{GaveWhereTold-consumed, same-kept}
use Rattle.outside.proofs.host.stream.HostSourceSource.take.Goals as goal

pub returns-in-Ok-clause-told : goal.returns-in-Ok-clause-told
returns-in-Ok-clause-told g c = rw (← c.self.view_is) (GaveWhereTold-consumed _ _ _ _ c.in-Ok.ensures.bound.0 c.in-Ok.ensures.bytes)

pub returns-in-Err-clause-told : goal.returns-in-Err-clause-told
returns-in-Err-clause-told g c = rw (← c.self.view_is) (same-kept _ _ (g.met.R.SteadyRead.steady c.read.new.self c.self.inside.reader) c.in-Err.ensures.bytes)

use Rattle.outside.proofs.Known.{Grew-appended, same-appended_none, same-kept}
use Rattle.outside.proofs.host.stream.HostSinkSink.put.Goals as goal
use Rattle.outside.proofs.host.stream.HostSinkSink.put.Goals.{in_default-via-in-Ok+else-count-gt0, in_default-via-in_default}

pub returns-in-Ok-clause-told : goal.returns-in-Ok-clause-told
returns-in-Ok-clause-told g c = rw (← c.self.view_is) (Grew-appended _ _ _ (g.met.W.DirectWrite.steady c.write.new.self c.self.inside.writer) c.in-Ok.ensures.bytes)

pub returns-in_default-clause-told : goal.returns-in_default-clause-told
returns-in_default-clause-told g c = rw (← c.self.view_is)
    (elim c.in_default.branch [
      | in_default-via-in-Ok+else-count-gt0 w ↦ same-appended_none _ _ _ _ (g.met.W.DirectWrite.steady c.write.new.self c.self.inside.writer) w.if-count-gt0.false w.in-Ok.ensures.bytes
      | in_default-via-in_default w ↦ same-kept _ _ (g.met.W.DirectWrite.steady c.write.new.self c.self.inside.writer) w.in_default.ensures.bytes
    ])

use Rattle.std.proofs.Common.{refl, inl}
use Rattle.loop_acts.proofs.writing.add_writer.Goals as goal

pub returns-else-not-is_idle : goal.returns-else-not-is_idle
returns-else-not-is_idle c = inl (c.is_idle.ensures c.if-not-is_idle.false, refl)

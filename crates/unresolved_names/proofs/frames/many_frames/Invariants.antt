use Rattle.std.proofs.Common.{◌≡◌, ◌-◌}
use Rattle.program_tables.specs.FrameClasses.{many, frame_in}
use Rattle.unresolved_names.proofs.ManyLemmas.{with_front}
use Rattle.unresolved_names.proofs.frames.many_frames.Given as goal

abbrev pub invariant-loop : goal.invariant-loop
invariant-loop l = with_front l.classes.items (many frame_in (l.count - l.counter) l.rest) ≡ many frame_in l.count l.bytes

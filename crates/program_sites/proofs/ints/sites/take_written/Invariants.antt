use Rattle.std.proofs.Common.{take}
use Rattle.program_tables.specs.Resolved.{resolved}
use Rattle.program_sites.specs.Ints.Places.{AreLeft}
use Rattle.program_sites.specs.Ints.Rows.{put_at}
use Rattle.program_sites.proofs.ints.sites.take_written.Given as goal

abbrev pub invariant-loop-place : goal.invariant-loop-place
invariant-loop-place l = AreLeft (put_at (resolved l.program) l.method) (take l.place-index l.starts) l.initial.constants.items l.constants.items

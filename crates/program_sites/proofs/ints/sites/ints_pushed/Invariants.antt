use Rattle.std.proofs.Common.{◌≡◌, length, take}
use Rattle.program_tables.specs.Resolved.{resolved}
use Rattle.program_sites.specs.Ints.Places.{AreIntsOf}
use Rattle.program_sites.specs.Ints.Rows.{pushed_at}
use Rattle.program_sites.proofs.ints.sites.ints_pushed.Given as goal

abbrev pub invariant-loop-place : goal.invariant-loop-place
invariant-loop-place l = (length l.ints.items ≡ length l.code) × AreIntsOf (pushed_at (resolved l.program) l.method) (take l.place-index l.starts) l.ints.items

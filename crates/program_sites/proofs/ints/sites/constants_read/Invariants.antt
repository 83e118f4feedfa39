use Rattle.std.proofs.Common.{◌≡◌, length, take}
use Rattle.loop_rules.specs.Sites.{int_at}
use Rattle.program_tables.specs.Resolved.{resolved}
use Rattle.program_sites.specs.Ints.Places.{AreIntsOf, constant_read}
use Rattle.program_sites.proofs.ints.sites.constants_read.Given as goal

abbrev pub invariant-loop-place : goal.invariant-loop-place
invariant-loop-place l = (length l.ints.items ≡ length l.code) × AreIntsOf (constant_read (resolved l.program) (int_at l.constants) l.method) (take l.place-index l.starts) l.ints.items

use Rattle.std.proofs.Common.{◌≡◌, length, take}
use Rattle.program_tables.specs.Resolved.{resolved}
use Rattle.array_fields.specs.Lengths.{AreIntsOf, array_read}
use Rattle.array_fields.proofs.reads.arrays_at.Given as goal

abbrev pub invariant-loop-place : goal.invariant-loop-place
invariant-loop-place l = (length l.lengths.items ≡ length l.code) × AreIntsOf (array_read (resolved l.program) l.arrays l.method) (take l.place-index l.starts) l.lengths.items

use Rattle.std.proofs.Common.{◌≡◌, ◌-◌, map}
use Rattle.class_file.specs.InsideReading.{many_in}
use Rattle.frame_types.specs.Table.{type_in}
use Rattle.frame_types.specs.Steps.{named}
use Rattle.frame_types.proofs.ManyLemmas.{with_front}
use Rattle.frame_types.proofs.read.many_types.Given as goal

abbrev pub invariant-loop : goal.invariant-loop
invariant-loop l = with_front (map (named l.pool) l.types.items) (many_in (type_in l.pool) (l.count - l.counter) l.rest) ≡ many_in (type_in l.pool) l.count l.bytes

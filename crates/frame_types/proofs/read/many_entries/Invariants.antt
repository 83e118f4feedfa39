use Rattle.std.proofs.Common.{◌≡◌, ◌-◌, map}
use Rattle.class_file.specs.InsideReading.{many_in}
use Rattle.frame_types.specs.Table.{map_entry_in}
use Rattle.frame_types.specs.Extents.{entry_named}
use Rattle.frame_types.proofs.ManyLemmas.{with_front}
use Rattle.frame_types.proofs.read.many_entries.Given as goal

abbrev pub invariant-loop : goal.invariant-loop
invariant-loop l = with_front (map (entry_named l.pool) l.entries.items) (many_in (map_entry_in l.pool) (l.count - l.counter) l.rest) ≡ many_in (map_entry_in l.pool) l.count l.bytes

use Rattle.std.proofs.Common.{◌≡◌, ◌-◌}
use Rattle.class_pool.specs.Reading.{number_in}
use Rattle.class_file.specs.InsideReading.{many_in}
use Rattle.class_file.proofs.ManyLemmas.{with_front}
use Rattle.class_file.proofs.structure.many_indexes.Given as goal

abbrev pub invariant-loop : goal.invariant-loop
invariant-loop l = with_front l.indexes.items (many_in (number_in 2) (l.count - l.counter) l.rest) ≡ many_in (number_in 2) l.count l.bytes

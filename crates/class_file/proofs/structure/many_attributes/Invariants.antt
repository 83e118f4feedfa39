use Rattle.std.proofs.Common.{◌≡◌, ◌-◌}
use Rattle.class_file.specs.InsideReading.{many_in, attribute_in}
use Rattle.class_file.proofs.ManyLemmas.{with_front}
use Rattle.class_file.proofs.structure.many_attributes.Given as goal

abbrev pub invariant-loop : goal.invariant-loop
invariant-loop l = with_front l.attributes.items (many_in (attribute_in l.owner l.pool) (l.count - l.counter) l.rest) ≡ many_in (attribute_in l.owner l.pool) l.count l.bytes

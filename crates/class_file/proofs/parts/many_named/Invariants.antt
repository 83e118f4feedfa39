use Rattle.std.proofs.Common.{◌≡◌, ◌-◌}
use Rattle.class_file.specs.InsideReading.{many_in, named_in}
use Rattle.class_file.proofs.ManyLemmas.{with_front}
use Rattle.class_file.proofs.parts.many_named.Given as goal

abbrev pub invariant-loop : goal.invariant-loop
invariant-loop l = with_front l.all.items (many_in named_in (l.count - l.counter) l.rest) ≡ many_in named_in l.count l.bytes

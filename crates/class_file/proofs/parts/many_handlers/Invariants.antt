use Rattle.std.proofs.Common.{◌≡◌, ◌-◌}
use Rattle.class_file.specs.InsideReading.{many_in, handler_in}
use Rattle.class_file.proofs.ManyLemmas.{with_front}
use Rattle.class_file.proofs.parts.many_handlers.Given as goal

abbrev pub invariant-loop : goal.invariant-loop
invariant-loop l = with_front l.handlers.items (many_in handler_in (l.count - l.counter) l.rest) ≡ many_in handler_in l.count l.bytes

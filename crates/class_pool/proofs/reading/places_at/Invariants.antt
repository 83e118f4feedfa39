use Rattle.std.proofs.Common.{◌≡◌, ◌-◌, false}
use Rattle.class_pool.specs.Reading.{places_in}
use Rattle.class_pool.proofs.PlaceLemmas.{with_front}
use Rattle.class_pool.proofs.reading.places_at.Given as goal

abbrev pub invariant-loop : goal.invariant-loop
invariant-loop l = with_front l.entries.items (places_in (l.count - l.counter) l.due l.rest) ≡ places_in l.count false l.bytes

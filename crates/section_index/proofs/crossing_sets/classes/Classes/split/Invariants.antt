use Rattle.std.proofs.Common.{◌≡◌, ◌+◌, length}
use Rattle.section_index.proofs.crossing_sets.classes.Classes.split.Given as goal

abbrev pub invariant-loop : goal.invariant-loop
invariant-loop l = record {
  class : l.self-inside.class.items ≡ l.initial.self-inside.class.items;
  long : length l.self-inside.places.items ≡ l.base + l.counter;
}

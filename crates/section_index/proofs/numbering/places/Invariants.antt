use Rattle.std.proofs.Common.{◌≡◌, ℕ, ◌<◌, length, get_or}
use Rattle.section_index.specs.Numbering.{IsPlaced}
use Rattle.section_index.proofs.numbering.places.Given as goal

abbrev pub invariant-loop-i : goal.invariant-loop-i
invariant-loop-i l = record {
  long : length l.places.items ≡ l.i;
  each : (k : ℕ) → k < l.i → IsPlaced l.numbers (get_or l.members k 0) (get_or l.places.items k 0);
}

use Rattle.std.proofs.Common.{ℕ, ◌-◌, ◌<◌, ◌≤◌, length}
use Rattle.section_index.specs.Splitting.{SplitsLater}
use Rattle.section_index.proofs.crossing_sets.splitting.least_splitting.Given as goal

abbrev pub invariant-loop-low : goal.invariant-loop-low
invariant-loop-low l = record {
  none : (k : ℕ) → k < l.low → ¬ SplitsLater l.family.sets l.order k;
  some : l.high < length l.family.sets → (k : ℕ) × (k ≤ l.high) × SplitsLater l.family.sets l.order k;
}

abbrev pub decreases-loop-low : goal.decreases-loop-low
decreases-loop-low l = l.high - l.low

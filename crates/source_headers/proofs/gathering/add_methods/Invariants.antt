use Rattle.std.proofs.Common.{◌≡◌, ℕ, ◌≤◌}
use Rattle.source_headers.specs.Found.{AreRising}
use Rattle.source_headers.specs.Headers.{found_at}
use Rattle.source_headers.specs.Gathered.{AreGathered}
use Rattle.source_headers.proofs.gathering.add_methods.Given as goal

abbrev pub invariant-loop-number : goal.invariant-loop-number
invariant-loop-number l = record {
  gathered : AreGathered l.program l.notes l.loops.counted.items l.number l.gathered;
  rising : AreRising l.left;
  same : (m p : ℕ) → l.number ≤ m → found_at l.left m p ≡ found_at l.loops.counted.items m p;
}

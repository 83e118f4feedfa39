use Rattle.std.proofs.Common.{◌≡◌, ℕ, ◌<◌, length, false}
use Rattle.std.specs.Prelude.{slice_index}
use Rattle.circuit_build.specs.Wiring.{Gives}
use Rattle.circuit_build.proofs.logic.Logic.rows.Given as goal

abbrev pub invariant-loop-k : goal.invariant-loop-k
invariant-loop-k g l = record {
  wires : l.self.lacks ≡ false → l.self ≡ l.fn.self;
  gives : Gives l.fn.self l.self (λ _. (length l.rows.items ≡ l.k) × ((j : ℕ) → j < l.k → g.F.Fn.post l.fn.row (j, tt) (slice_index l.rows.items j)));
}

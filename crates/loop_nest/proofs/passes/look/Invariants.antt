use Rattle.std.proofs.Common.{◌≡◌, ℕ, ◌<◌, ◌≤◌, length}
use Rattle.loop_nest.specs.Pointers.{AreFollowed, DoEnd}
use Rattle.loop_nest.proofs.passes.look.Given as goal

abbrev pub invariant-loop : goal.invariant-loop
invariant-loop l = record {
  inside : l.at < length l.into;
  same : (c : ℕ → ℕ) → AreFollowed c l.into → c l.at ≡ c l.u;
  high : (e : DoEnd l.into) → l.counter ≤ e.height l.at;
}

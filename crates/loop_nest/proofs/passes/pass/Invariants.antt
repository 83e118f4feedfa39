use Rattle.std.proofs.Common.{◌≡◌, ℕ, ◌<◌, true, false, length, take, Contains}
use Rattle.loop_nest.specs.Entered.{names}
use Rattle.loop_nest.specs.Pointers.{ArePointers, CannotMerge}
use Rattle.loop_nest.proofs.passes.pass.Given as goal

abbrev pub invariant-loop-x : goal.invariant-loop-x
invariant-loop-x l = record {
  pointers : ArePointers l.g l.into l.back;
  fewer : l.merged ≡ true → length (names l.into) < length (names l.fn.into);
  kept : l.merged ≡ false → l.into ≡ l.fn.into;
  none : l.merged ≡ false → (x : ℕ) → Contains (take l.x-index l.order) x → CannotMerge l.g l.fn.into x;
}

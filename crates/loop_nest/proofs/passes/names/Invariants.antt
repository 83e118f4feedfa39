use Rattle.std.proofs.Common.{◌≡◌, ℕ, ◌<◌, length, All, get_or}
use Rattle.loop_nest.specs.Entered.{class_of}
use Rattle.loop_nest.specs.Pointers.{IsNameOf}
use Rattle.loop_nest.proofs.passes.names.Given as goal

abbrev pub invariant-loop-u : goal.invariant-loop-u
invariant-loop-u l = record {
  long : length l.class.items ≡ l.u;
  within : All (λ a. a < length l.into) l.class.items;
  each : (k : ℕ) → k < l.u → IsNameOf l.into k (get_or l.class.items k k);
  left : (k : ℕ) → k < l.u → class_of l.into (get_or l.class.items k k) ≡ get_or l.class.items k k;
}

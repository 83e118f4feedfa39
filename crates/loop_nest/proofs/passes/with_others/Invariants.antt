use Rattle.std.proofs.Common.{◌<◌, ℕ, All, Contains}
use Rattle.loop_nest.proofs.passes.with_others.Given as goal

abbrev pub invariant-loop-u : goal.invariant-loop-u
invariant-loop-u l = record {
  within : All (λ v. v < l.nodes) l.all.items;
  kept : (v : ℕ) → Contains l.fn.order.items v → Contains l.all.items v;
  each : (v : ℕ) → v < l.u → Contains l.all.items v;
}

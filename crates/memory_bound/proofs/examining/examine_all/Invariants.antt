use Rattle.std.proofs.Common.{◌≡◌, ℕ, [], Contains, length, take}
use Rattle.bytecode_model.specs.Program.{Program}
use Rattle.method_flow.specs.Flow.{IsFlowOf}
use Rattle.call_regions.specs.Calling.{IsTargetsFirst}
use Rattle.bound_rules.specs.Bounding.{IsLeftWith}
use Rattle.memory_bound.specs.Setting.{ForEach, bounds_in, lengths_in}
use Rattle.memory_bound.specs.Found.{IsMemoryFoundOf, found_at}
use Rattle.memory_bound.specs.Examined.{TellsReducible}
use Rattle.memory_bound.proofs.examining.examine_all.Given as goal

abbrev pub invariant-loop-m : goal.invariant-loop-m
invariant-loop-m l = record {
  long : length l.table.items ≡ length l.task.flow.methods;
  reducible : (P : Program) → IsFlowOf P l.task.flow → (x : ℕ) → Contains (take l.m-index l.order) x → TellsReducible P x (found_at l.table.items x);
  found : ForEach l.task (λ P. IsTargetsFirst P P.boot l.order → ((x : ℕ) → Contains l.order x → IsLeftWith P x [])
      → (x : ℕ) → Contains (take l.m-index l.order) x → IsMemoryFoundOf P (bounds_in l.task) (lengths_in l.task) x (found_at l.table.items x));
}

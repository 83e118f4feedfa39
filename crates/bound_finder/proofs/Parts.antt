-- What an invoke in a loop may run fits the cache where all does that may run in the loop.
use Rattle.std.proofs.Common.{ℕ, ◌*◌, List, Contains}
use Rattle.bytecode_model.specs.Program.{Program}
use Rattle.method_flow.specs.Calls.{IsCall, IsStartOf, IsTarget}
use Rattle.method_flow.specs.Regions.{IsWithin, IsWithinNodes}
use Rattle.method_flow.specs.Regions.IsWithinNodes.{calls}
use Rattle.method_flow.specs.declared.timing.Timing.{Timing}
use Rattle.bound_rules.specs.Fitting.{RegionFits, LoopFits}
use Rattle.bound_rules.proofs.Parting.{part_fits}

pub loop_called_fit : (P : Program) (t : Timing) (m q x : ℕ) (members : List ℕ) → LoopFits P t m members → Contains members (2 * q) → IsStartOf P m q → IsCall P m q → IsTarget P m q x → (RegionFits P t x → ⊥) → ⊥
loop_called_fit P t m q x members fits has start call target never = part_fits P t (IsWithinNodes P m members) (IsWithin P x) fits (λ z within. calls q x has start call target within) never

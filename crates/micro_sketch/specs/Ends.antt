-- Where a bytecode ends.
use Rattle.std.specs.Prelude.{◌≡◌, ℕ, suc, ◌^◌, ◌<◌, true, List, [], ◌∷◌}
use Rattle.std.specs.declared.option.Option.{Option}
use Rattle.jop_core.specs.State.{MachineState}
use Rattle.jop_core.specs.Cycle.{at_boundary}
use Rattle.jop_core.specs.Scene.{begun, run}
use Rattle.device_traits.specs.Told.{IsGiven}

-- a boundary comes after some cycles, where the input gives these answers
pub record ComesToBoundary (s : MachineState) (answers : List (Option ℕ)) : Type 0 where
  pub after : ℕ
  pub soon : after < 2 ^ 62
  pub boundary : at_boundary (run (suc after) (begun s answers)).state ≡ true

abbrev pub AreGiven : List (Option ℕ) → Type 0
AreGiven [] = Unit {0}
AreGiven (answer ∷ answers) = IsGiven answer × AreGiven answers

-- a boundary comes, whatever bytes the input gives
abbrev pub EndsSoon : MachineState → Type 0
EndsSoon s = (answers : List (Option ℕ)) → AreGiven answers → ComesToBoundary s answers

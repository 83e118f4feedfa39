-- What a bound of a method says of the machine.
use Rattle.std.specs.Prelude.{◌≡◌, ℕ, ◌≤◌, MatchOption}
use Rattle.std.specs.declared.option.Option.{Option}
use Rattle.bytecode_model.specs.Program.{Program}
use Rattle.method_flow.specs.declared.timing.Timing.{Timing}
use Rattle.method_flow.specs.Keeping.{BoundOf}
use Rattle.activations.specs.Setting.{Setting, IsSetting}
use Rattle.activations.specs.Activations.{Stage, IsActivation, cycles_of}
use Rattle.activations.specs.Timing.{HasTiming}
use Rattle.activations.specs.Keeping.{Keeps}

-- Every ended activation of the method, on whatever machine with this timing stands for a state of the program, and with whatever in its cache, takes
-- at most so many cycles where it keeps the bounds of loops; where there is no number, no activation that keeps them ends.
abbrev pub BoundsActivations : Program → Timing → BoundOf → (method : ℕ) → (bound : Option ℕ) → Type 0
BoundsActivations P t bound_of m bound =
    (g : Setting) (a b : Stage) → IsSetting g → g.program ≡ P → HasTiming t a.machine → (h : IsActivation g m a b) → Keeps bound_of h
    → MatchOption bound ⊥ (λ most. cycles_of a b ≤ most)

-- Loops that count with what is known further keep their bounds in activations, where those begin in a run from the boot state.
use Rattle.std.specs.Prelude.{◌≡◌, ℕ, ◌≤◌, MatchOption, Some}
use Rattle.std.specs.declared.option.Option.{Option}
use Rattle.bytecode_model.specs.State.{State}
use Rattle.bytecode_model.specs.Program.{Program}
use Rattle.bytecode_model.specs.Steps.{boot_state}
use Rattle.bytecode_typing.specs.Fits.{Fits}
use Rattle.method_flow.specs.Keeping.{BoundOf}
use Rattle.method_flow.specs.declared.timing.Timing.{Timing}
use Rattle.loop_rules.specs.Further.Known.{Known}
use Rattle.loop_rules.specs.Further.Fields.{PutOnlyArrays}
use Rattle.counted_laws.specs.Paths.{HoldKnown, IsOfRun}
use Rattle.activations.specs.Setting.{Setting, IsSetting, limits}
use Rattle.activations.specs.Activations.{Stage, IsActivation, cycles_of}
use Rattle.activations.specs.Timing.{HasTiming}
use Rattle.activations.specs.Keeping.{Keeps}
use Rattle.activations.specs.Warrant.{BoundsActivations}
use Rattle.activation_laws.specs.Counted.Others.{KeepsFurtherOthers}

-- The state is one of a run from the boot state, in which fields hold what is known of them; and each instruction that writes them puts such arrays.
pub record IsOfKnownRun (g : Setting) (known : Known) (s : State) : Type 0 where
  pub boot : State
  pub begins : boot_state g.program ≡ Some boot
  pub fits : Fits g.program g.types (limits g) boot
  pub arrays : PutOnlyArrays g.program known
  pub hold : HoldKnown g.program known boot
  pub run : IsOfRun g.program (limits g) boot s

-- An activation that begins in such a run keeps all bounds, where it keeps those of the loops that don't count to them.
abbrev pub FurtherActivationsKeep : Type 0
FurtherActivationsKeep =
    (g : Setting) (known : Known) (bound_of : BoundOf) (m : ℕ) (a b : Stage) (h : IsActivation g m a b) → IsSetting g → IsOfKnownRun g known a.state
    → KeepsFurtherOthers known bound_of h → Keeps bound_of h

-- What a bound of a method then says: every ended activation of the method that begins in such a run takes at most so many cycles, where it keeps the
-- bounds of the loops that don't count to them; where there is no number, no such activation ends.
abbrev pub BoundsWithoutFurther : Program → Timing → Known → BoundOf → (method : ℕ) → (bound : Option ℕ) → Type 0
BoundsWithoutFurther P t known bound_of m bound =
    (g : Setting) (a b : Stage) → IsSetting g → g.program ≡ P → HasTiming t a.machine → IsOfKnownRun g known a.state → (h : IsActivation g m a b)
    → KeepsFurtherOthers known bound_of h
    → MatchOption bound ⊥ (λ most. cycles_of a b ≤ most)

abbrev pub FurtherLoopsNeedNoPremise : Type 0
FurtherLoopsNeedNoPremise =
    (P : Program) (t : Timing) (known : Known) (bound_of : BoundOf) (m : ℕ) (bound : Option ℕ) → BoundsActivations P t bound_of m bound
    → BoundsWithoutFurther P t known bound_of m bound

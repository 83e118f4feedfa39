-- Where static final ints hold their constants: in every state of a run from the boot state. So there a bound of a method asks for the other loops alone.
use Rattle.std.specs.Prelude.{◌≡◌, ℕ, ◌≤◌, ℤ, List, Some, MatchOption}
use Rattle.std.specs.declared.option.Option.{Option}
use Rattle.class_pool.specs.declared.class.ClassFile.{ClassFile}
use Rattle.bytecode_model.specs.State.{State}
use Rattle.bytecode_model.specs.Program.{Program, Limits}
use Rattle.bytecode_model.specs.Steps.{boot_state, run_from}
use Rattle.bytecode_typing.specs.Typed.{Typing, Typed}
use Rattle.bytecode_typing.specs.Lawful.{Lawful}
use Rattle.bytecode_typing.specs.Fits.{Fits}
use Rattle.method_flow.specs.Keeping.{BoundOf}
use Rattle.method_flow.specs.declared.timing.Timing.{Timing}
use Rattle.program_tables.specs.Resolved.{resolved}
use Rattle.program_tables.specs.Resolving.{IsResolved}
use Rattle.loop_rules.specs.Tests.{Constants}
use Rattle.loop_rules.specs.Sites.{int_at}
use Rattle.method_runs.specs.Laws.{GivesBytes}
use Rattle.counted_laws.specs.Paths.{HoldConstants}
use Rattle.program_sites.specs.Ints.Constants.{AreConstants}
use Rattle.activations.specs.Setting.{Setting, IsSetting, limits}
use Rattle.activations.specs.Activations.{Stage, IsActivation, cycles_of}
use Rattle.activations.specs.Timing.{HasTiming}
use Rattle.activations.specs.Warrant.{BoundsActivations}
use Rattle.activation_laws.specs.Counted.Others.{KeepsOthers}

-- along a run from a state that fits, in which fields hold their constants, they do
abbrev pub RunsHoldConstants : Type 0
RunsHoldConstants =
    (P : Program) (types : Typing) (limits : Limits) (constants : Constants) (input : ℕ → Option ℕ) (s : State) (n : ℕ) → Lawful P → Typed P types
    → GivesBytes input
    → Fits P types limits s → HoldConstants P constants s → HoldConstants P constants (run_from P limits input s n)

-- in the boot state static final ints do
abbrev pub BootHoldsConstants : Type 0
BootHoldsConstants =
    (cs : List ClassFile) (constants : List (Option ℤ)) (s : State) → IsResolved cs → AreConstants cs constants → boot_state (resolved cs) ≡ Some s
    → HoldConstants (resolved cs) (int_at constants) s

-- a state of a run of the program from its boot state
pub record IsOfBootRun (cs : List ClassFile) (g : Setting) (s : State) : Type 0 where
  pub boot : State
  pub begins : boot_state (resolved cs) ≡ Some boot
  pub fits : Fits (resolved cs) g.types (limits g) boot
  pub input : ℕ → Option ℕ
  pub gives : GivesBytes input
  pub steps : ℕ
  pub is : s ≡ run_from (resolved cs) (limits g) input boot steps

-- Every ended activation of the method that begins in such a run takes at most so many cycles, where it keeps the bounds of the loops that don't count to
-- them; where there is no number, no such activation ends.
abbrev pub BoundsInRuns : List ClassFile → Timing → List (Option ℤ) → BoundOf → (method : ℕ) → (bound : Option ℕ) → Type 0
BoundsInRuns cs t constants bound_of m bound =
    (g : Setting) (a b : Stage) → IsSetting g → g.program ≡ resolved cs → HasTiming t a.machine → IsOfBootRun cs g a.state → (h : IsActivation g m a b)
    → KeepsOthers (int_at constants) bound_of h
    → MatchOption bound ⊥ (λ most. cycles_of a b ≤ most)

abbrev pub CountedLoopsOfRuns : Type 0
CountedLoopsOfRuns =
    (cs : List ClassFile) (t : Timing) (constants : List (Option ℤ)) (bound_of : BoundOf) (m : ℕ) (bound : Option ℕ) → IsResolved cs
    → AreConstants cs constants → BoundsActivations (resolved cs) t bound_of m bound → BoundsInRuns cs t constants bound_of m bound

-- In the runs of a program from its boot state a bound asks for the loops alone that don't count with what is known further.
use Rattle.std.specs.Prelude.{◌≡◌, ℕ, ◌≤◌, ℤ, List, MatchOption}
use Rattle.std.specs.declared.option.Option.{Option}
use Rattle.class_pool.specs.declared.class.ClassFile.{ClassFile}
use Rattle.bytecode_model.specs.Program.{Program}
use Rattle.method_flow.specs.Keeping.{BoundOf}
use Rattle.method_flow.specs.declared.timing.Timing.{Timing}
use Rattle.program_tables.specs.Resolved.{resolved}
use Rattle.program_tables.specs.Resolving.{IsResolved}
use Rattle.loop_rules.specs.declared.found.FoundLoop.{FoundLoop}
use Rattle.loop_rules.specs.Sites.{int_at}
use Rattle.loop_rules.specs.Further.Known.{Known}
use Rattle.loop_rules.specs.Further.Arrays.{IsKnownBy}
use Rattle.loop_finder.specs.Further.{IsCountedFurther}
use Rattle.program_sites.specs.Ints.Constants.{AreConstants}
use Rattle.activations.specs.Setting.{Setting, IsSetting}
use Rattle.activations.specs.Activations.{Stage, IsActivation, cycles_of}
use Rattle.activations.specs.Timing.{HasTiming}
use Rattle.activations.specs.Warrant.{BoundsActivations}
use Rattle.activation_laws.specs.Counted.Others.{KeepsFurtherOthers, CountsFurtherIn}
use Rattle.activation_laws.specs.Counted.Runs.{IsOfBootRun}

-- Every ended activation of the method that begins in such a run takes at most so many cycles, where it keeps the bounds of the loops that don't count to
-- them with what is known further; where there is no number, no such activation ends.
abbrev pub BoundsFurtherInRuns : List ClassFile → Timing → Known → BoundOf → (method : ℕ) → (bound : Option ℕ) → Type 0
BoundsFurtherInRuns cs t known bound_of m bound =
    (g : Setting) (a b : Stage) → IsSetting g → g.program ≡ resolved cs → HasTiming t a.machine → IsOfBootRun cs g a.state → (h : IsActivation g m a b)
    → KeepsFurtherOthers known bound_of h
    → MatchOption bound ⊥ (λ most. cycles_of a b ≤ most)

-- so with the arrays of fields that are known by constants
abbrev pub FurtherLoopsOfRuns : Type 0
FurtherLoopsOfRuns =
    (cs : List ClassFile) (t : Timing) (constants : List (Option ℤ)) (known : Known) (bound_of : BoundOf) (m : ℕ) (bound : Option ℕ) → IsResolved cs
    → AreConstants cs constants → IsKnownBy (resolved cs) (int_at constants) known → BoundsActivations (resolved cs) t bound_of m bound
    → BoundsFurtherInRuns cs t known bound_of m bound

-- each loop that is found further counts to its number
abbrev pub FurtherFoundLoopsCount : Type 0
FurtherFoundLoopsCount =
    (P : Program) (known : Known) (x : FoundLoop) → IsCountedFurther P known x → CountsFurtherIn P known x.method x.place x.bound

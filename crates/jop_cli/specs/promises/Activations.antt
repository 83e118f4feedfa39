-- Bounds in the runs of what is linked, and how often methods are loaded there; a call of `check` and one of `run` together.
use Rattle.std.specs.Prelude.{ℕ, Option, ◌≤◌, MatchOption, ◌≡◌}
use Rattle.method_flow.specs.Keeping.{BoundOf}
use Rattle.activations.specs.Activations.{IsActivation, cycles_of}
use Rattle.bound_laws.specs.Soundness.Loads.{ActivationsLoadOnce, StaysLoadOnce, LoadsAreMisses}
use Rattle.jop_cli.specs.promises.Words.{Settings, Parts, Stage, BoundsActivations, resolved, timing_of, Show, linked_setting, Call, RanLinked, Keeps}
use Rattle.jop_cli.specs.promises.Words.{text_of_word, bounds_of}
use Rattle.jop_cli.specs.promises.Runs.{IsBoundary, RanLinkedFile}
use Rattle.jop_cli.specs.promises.Check.{ShowsHeld}

-- ---- the bounds in the runs

-- `run` or `trace` ran what is linked; an activation of a method that begins at a boundary of the run has ended; and the method has a bound, with the waits
-- and the method cache of the run.
pub record BoundInRun : Type 0 where
  pub call : Call
  pub settings : Settings
  pub show : Show
  pub linked : Parts
  pub ran : RanLinked call settings show linked
  pub method : ℕ
  pub first : Stage
  pub last : Stage
  pub begins : IsBoundary settings linked ran.config first
  pub ended : IsActivation (linked_setting linked.classes settings.stack ran.config.memory) method first last
  pub bound_of : BoundOf
  pub bound : Option ℕ
  pub holds : BoundsActivations (resolved linked.classes) (timing_of settings) bound_of method bound

-- The activation takes at most so many cycles; where the bound is never, there is no such activation.
abbrev pub TakesAtMost : BoundInRun → Type 0
TakesAtMost x = MatchOption x.bound ⊥ (λ most. cycles_of x.first x.last ≤ most)

-- So it is where its loops keep the bounds.
abbrev pub BoundsHoldInRuns : Type 0
BoundsHoldInRuns = (x : BoundInRun) → Keeps x.bound_of x.ended → TakesAtMost x

-- ---- what is loaded

-- Of what runs the program of a setting: an ended activation of a method loads each method at most once, but for the load on the way back to its caller, where
-- all that may run while the method does fits the cache together; and so does each stay of a frame of the method in a loop of it, where the method and what
-- the calls in the loop may run do. The machine counts a miss just where a step loads.
abbrev pub MethodsAreLoadedOnce : Type 0
MethodsAreLoadedOnce = ActivationsLoadOnce × StaysLoadOnce × LoadsAreMisses

-- A certificate holds, as a call of `check` shows. The same bytes were run with the same waits and the same sizes of the method cache, and an activation of the
-- certificate's method that begins at a boundary of the run has ended.
pub record CheckedRun : Type 0 where
  pub check : Call
  pub checked : Settings
  pub image : ℕ
  pub held : ShowsHeld check checked image
  pub call : Call
  pub settings : Settings
  pub show : Show
  pub file : RanLinkedFile call settings show (text_of_word held.files 0)
  pub timing : timing_of settings ≡ timing_of checked
  pub first : Stage
  pub last : Stage
  pub begins : IsBoundary settings file.linked file.ran.config first
  pub ended : IsActivation (linked_setting file.linked.classes settings.stack file.ran.config.memory) held.certificate.root first last

-- It takes at most as many cycles as the certificate says, where its loops keep the bounds; where it says never, no such activation ends.
abbrev pub CheckedRunsAreKept : Type 0
CheckedRunsAreKept =
    (x : CheckedRun) → Keeps (bounds_of x.file.linked.classes x.held.lines) x.ended
    → MatchOption x.held.certificate.bound ⊥ (λ most. cycles_of x.first x.last ≤ most)

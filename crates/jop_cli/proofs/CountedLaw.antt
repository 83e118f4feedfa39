-- In the runs of what was linked a bound of a method asks for the loops alone that don't count.
use Rattle.std.proofs.Common.{◌≡◌, ℕ, zero, suc, List, [], ◌∷◌, ◌++◌, Option, refl, sym, subst, ◌⊎◌, inl, inr, ⊎_elim}
use Rattle.bytecode_model.specs.State.{State}
use Rattle.bytecode_model.specs.WellFormed.{IsInput}
use Rattle.method_runs.specs.Laws.{GivesBytes}
use Rattle.activations.specs.Setting.{Setting, IsSetting, Stands, limits}
use Rattle.activations.specs.Activations.{Stage}
use Rattle.activations.specs.Timing.{HasTiming}
use Rattle.activations.specs.Steps.{PlacesTellWords, StepsAreTold}
use Rattle.boundary.specs.Runs.{Goes, input_of}
use Rattle.boundary.proofs.Obeys.{Sort, Plain, Takes, Puts, Obeys, step_sort}
use Rattle.boundary.proofs.Answered.{reached}
use Rattle.activation_laws.specs.Counted.Runs.{IsOfBootRun, CountedLoopsOfRuns}
use Rattle.activation_laws.specs.Counted.FurtherRuns.{FurtherLoopsOfRuns}
use Rattle.jop_core.specs.Reset.{linked_reset}
use Rattle.analysis_commands.specs.Analysis.{timing_of}
use Rattle.endings.specs.Show.{linked_shown}
use Rattle.endings.specs.Settings.{linked_setting}
use Rattle.jop_cli.specs.Answer.{lent_of}
use Rattle.jop_cli.specs.promises.Activations.{BoundInRun}
use Rattle.jop_cli.specs.promises.Loops.{CountedLoopsAreKept, FurtherLoopsAreKept}
use Rattle.jop_cli.proofs.Coming.{boot_is_fresh}
use Rattle.jop_cli.proofs.HoldingLaw.{setting_of, timing_along, reset_timing}

-- ---- the machine stands for the state at which a run begins

pub first_stands : (g : Setting) (limit : ℕ) (first : Stage) (n : ℕ) (a : Stage) → Goes g limit first n a → Stands g a.machine a.state → Stands g first.machine first.state
first_stands g limit first zero a goes stands = subst (λ (x : Stage). Stands g x.machine x.state) goes stands
first_stands g limit first (suc n) a (mid, goes, going, below, follows) stands = first_stands g limit first n mid goes follows.stands

-- ---- the answers that a run took are bytes

grown : (sort : Sort) (answer : Option ℕ) (s t : State) → Obeys sort answer s t → (t.answers ≡ s.answers) ⊎ (t.answers ≡ s.answers ++ answer ∷ [])
grown Plain answer s t obeys = inl obeys.0
grown Takes answer s t obeys = inr obeys.0
grown (Puts byte) answer s t obeys = inl obeys.0

given_more : (xs : List (Option ℕ)) (answer : Option ℕ) → GivesBytes (input_of xs) → IsInput answer → GivesBytes (input_of (xs ++ answer ∷ []))
given_more [] answer gives is zero = is
given_more [] answer gives is (suc k) = tt
given_more (x ∷ xs) answer gives is zero = gives zero
given_more (x ∷ xs) answer gives is (suc k) = given_more xs answer (λ j. gives (suc j)) is k

pub gives_bytes : (g : Setting) (limit : ℕ) (first : Stage) → first.state.answers ≡ [] → (n : ℕ) (a : Stage) → Goes g limit first n a → GivesBytes (input_of a.state.answers)
gives_bytes g limit first fresh zero a goes =
    let none : GivesBytes (input_of []) = λ k. tt in
    subst (λ (x : Stage). GivesBytes (input_of x.state.answers)) (sym goes) (subst (λ (xs : List (Option ℕ)). GivesBytes (input_of xs)) (sym fresh) none)
gives_bytes g limit first fresh (suc n) a (mid, goes, going, below, follows) =
    let before = gives_bytes g limit first fresh n mid goes in
    let sort = step_sort g.program (limits g) mid.state going in
    let G : List (Option ℕ) → Type 0 = λ xs. GivesBytes (input_of xs) in
    ⊎_elim
    (λ same. subst G (sym same) before)
    (λ more. subst G (sym more) (given_more mid.state.answers follows.answer before follows.byte))
    (grown sort.sort follows.answer mid.state a.state (sort.obeys follows.answer a.state follows.is_next))

-- ---- an activation in the run of a call

module _ (places : PlacesTellWords) (steps : StepsAreTold) (x : BoundInRun) where
  abbrev setting : Setting
  setting = linked_setting x.linked.classes x.settings.stack x.ran.config.memory

  abbrev first : Stage
  first = record { machine = linked_reset x.settings.stack x.linked.laid.words x.ran.config; state = x.begins.boot }

  is_setting : IsSetting setting
  is_setting = setting_of (linked_shown x.linked.classes x.show) x.call x.linked.classes setting first.machine x.settings.cycles (lent_of x.call.old) (lent_of x.call.new) x.ran.ran

  has_timing : HasTiming (timing_of x.settings) x.first.machine
  has_timing =
      timing_along places steps setting is_setting (timing_of x.settings) x.settings.cycles first
      (reset_timing x.settings x.ran.config x.settings.stack x.linked.laid.words x.ran.has) x.begins.steps x.first x.begins.goes

  of_run : IsOfBootRun x.linked.classes setting x.first.state
  of_run =
      let at = x.begins in
      let stands = first_stands setting x.settings.cycles first at.steps x.first at.goes x.ended.begins.stands in
      let fresh = boot_is_fresh setting.program at.boot at.is_boot in
      record {
        boot = at.boot;
        begins = at.is_boot;
        fits = stands.fits;
        input = input_of x.first.state.answers;
        gives = gives_bytes setting x.settings.cycles first fresh.answers at.steps x.first at.goes;
        steps = at.steps;
        is = reached setting x.settings.cycles first at.steps x.first at.goes (input_of x.first.state.answers) (λ k within. refl);
      }

pub counted_loops_are_kept : PlacesTellWords → StepsAreTold → CountedLoopsOfRuns → CountedLoopsAreKept
counted_loops_are_kept places steps runs x constants resolved are others =
    runs x.linked.classes (timing_of x.settings) constants x.bound_of x.method x.bound resolved are x.holds (setting places steps x) x.first x.last
    (is_setting places steps x) refl (has_timing places steps x) (of_run places steps x) x.ended others

pub further_loops_are_kept : PlacesTellWords → StepsAreTold → FurtherLoopsOfRuns → FurtherLoopsAreKept
further_loops_are_kept places steps runs x constants known resolved are is_known others =
    runs x.linked.classes (timing_of x.settings) constants known x.bound_of x.method x.bound resolved are is_known x.holds (setting places steps x) x.first x.last
    (is_setting places steps x) refl (has_timing places steps x) (of_run places steps x) x.ended others

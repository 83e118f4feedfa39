-- An activation is of a method that the instruction before which it begins may run.
use Rattle.std.proofs.Common.{◌≡◌, ℕ, ◌<◌, List, [], ◌∷◌, ◌++◌, length, Some, refl, sym, ap, ◌∙◌, subst, arith}
use Rattle.lists.proofs.Lemmas.{some_same}
use Rattle.bytecode_model.specs.State.{Frame}
use Rattle.bytecode_typing.specs.Fits.{IsGoing}
use Rattle.method_flow.specs.Calls.{IsTarget}
use Rattle.method_flow.specs.Shapes.{FramesStep}
use Rattle.method_flow.specs.Shapes.FramesStep.{moves, enters, returns, drops, stops}
use Rattle.machine_stands.specs.Comes.{top_method}
use Rattle.run_follower.specs.Watch.Watched.{cycles_of}
use Rattle.activations.specs.Setting.{Setting, IsSetting}
use Rattle.activations.specs.Activations.{Stage, Follows, StaysAbove, depth, IsActivation}
use Rattle.activations.specs.Activations as boundaries
use Rattle.activations.specs.Steps.{PlacesTellWords, StepsAreTold}
use Rattle.activations.specs.Warrant.{BoundsActivations}
use Rattle.activation_laws.specs.Seen.{AreSeen}
use Rattle.activation_laws.specs.Profiled.{FirstHasTiming}
use Rattle.activation_laws.specs.Called.{CalledKeepBounds}
use Rattle.activation_laws.proofs.Depths.{going_on, topped, facts_of, step_goes}
use Rattle.activation_laws.proofs.Kept.{timing_at, by_clocks}

module _ (tell : PlacesTellWords) (told : StepsAreTold) (g : Setting) (is : IsSetting g) where
  goes_first : (frames : ℕ) (a : Stage) (cs : List Stage) (b : Stage) → StaysAbove g frames a cs b → IsGoing a.state.mode
  goes_first frames a [] b stays = step_goes tell told g is a b stays
  goes_first frames a (c ∷ cs) b stays = step_goes tell told g is a c stays.1

  pub of_target : (m : ℕ) (a b : Stage) (f : Frame) (callers : List Frame) → IsActivation g m a b → a.state.frames ≡ f ∷ callers → IsTarget g.program f.method f.pc m
  of_target m a b f callers x at = by ((facts_of tell told g is a x.first x.begins).shape f callers at)
    where
      deeper : length (f ∷ callers) < length x.first.state.frames
      deeper = subst (λ (fs : List Frame). length fs < length x.first.state.frames) at x.deeper

      by : FramesStep g.program a.state.mode f callers x.first.state → IsTarget g.program f.method f.pc m
      by (moves h) = let n = ap length h.frames in absurd (omega (arith, n, deeper))
      by (enters h) =
          let same : h.top.method ≡ m = some_same h.top.method m (sym (ap top_method h.frames) ∙ x.of_method) in
          subst (λ (k : ℕ). IsTarget g.program f.method f.pc k) same h.target
      by (returns h) = let n = ap length h.frames in let k = ap length h.callers_are in absurd (omega (arith, n, k, deeper))
      by (drops h) = let n = ap length h.frames in let k = ap length h.callers_are in absurd (omega (arith, n, k, deeper))
      by (stops alone ended) = absurd (ended (going_on x.first.state.mode (goes_first (depth a) x.first x.between b x.stays)))

pub called_keep_bounds : PlacesTellWords → StepsAreTold → CalledKeepBounds
called_keep_bounds tell told g stages heres t bound_of m most x is seen timing bounds one i keeps =
    let begun = i.begun_is.clock in
    let ended = i.ended_is.clock in
    let top = topped tell told g is i.begun i.is.first i.is.begins in
    let at = i.begun_is.top top.top top.callers top.are in
    let target = of_target tell told g is x.method i.begun i.ended top.top top.callers i.is top.are in
    let T : ℕ → ℕ → Type 0 = λ k p. IsTarget g.program k p x.method in
    let same : x.method ≡ m = one x.method (subst (λ (p : ℕ). T x.begun.method p) (sym at.1) (subst (λ (k : ℕ). T k top.top.pc) (sym at.0) target)) in
    let F : List Stage → Type 0 = λ ss. FirstHasTiming t ss in
    let S : List Stage → Type 0 = λ ss. AreSeen g ss heres in
    let rest = i.is.first ∷ (i.is.between ++ (i.ended ∷ i.later)) in
    let has_timing = timing_at tell told g is t i.earlier rest i.begun heres (subst S i.stand seen) (subst F i.stand timing) in
    let of_it : BoundsActivations g.program t bound_of x.method (Some most) = subst (λ (k : ℕ). BoundsActivations g.program t bound_of k (Some most)) (sym same) bounds in
    let cycles : boundaries.cycles_of i.begun i.ended ≡ cycles_of x = omega (arith, begun, ended) in
    by_clocks (Some most) (boundaries.cycles_of i.begun i.ended) (cycles_of x) cycles (of_it g i.begun i.ended is refl has_timing i.is keeps)

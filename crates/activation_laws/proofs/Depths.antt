-- How many frames there are at one boundary and at the next one.
use Rattle.std.proofs.Common.{◌≡◌, ◌+◌, ◌<◌, List, [], ◌∷◌, length, refl, sym, ap, ◌∙◌, subst, arith}
use Rattle.bytecode_model.specs.declared.Ending.{Ending}
use Rattle.bytecode_model.specs.declared.Ending.TheVariants.{Running, Raising, Ended, Uncaught}
use Rattle.bytecode_model.specs.State.{Frame}
use Rattle.bytecode_typing.specs.Fits.{IsGoing, FramesFit, numbers_of}
use Rattle.method_flow.specs.declared.timing.Timing.{Timing}
use Rattle.method_flow.specs.Shapes.{IsGoingOn, FramesStep}
use Rattle.method_flow.specs.Shapes.FramesStep.{moves, enters, returns, drops, stops}
use Rattle.activations.specs.Setting.{Setting, IsSetting}
use Rattle.activations.specs.Activations.{Stage, Follows, depth}
use Rattle.activations.specs.Steps.{PlacesTellWords, StepsAreTold, StepFacts}

-- the frames of a stage with a step behind it
pub record IsTopped (a : Stage) : Type 0 where
  pub top : Frame
  pub callers : List Frame
  pub are : a.state.frames ≡ top ∷ callers

-- what the step does to their number
pub data DepthStep (a b : Stage) : Type 0 where
  same : depth b ≡ depth a → IsGoing b.state.mode → DepthStep a b
  deeper : depth b ≡ depth a + 1 → a.state.mode ≡ Running → DepthStep a b
  back : depth a ≡ depth b + 1 → IsGoing b.state.mode → DepthStep a b
  over : depth a ≡ 1 → (IsGoing b.state.mode → ⊥) → DepthStep a b

pub going_on : (mode : Ending) → IsGoing mode → IsGoingOn mode
going_on Running going = tt
going_on (Raising p) going = tt
going_on Ended going = absurd going
going_on (Uncaught c) going = absurd going

going : (mode : Ending) → IsGoingOn mode → IsGoing mode
going Running on = tt
going (Raising p) on = tt
going Ended on = absurd on
going (Uncaught c) on = absurd on

going_as : (mode other : Ending) → mode ≡ other → IsGoing other → IsGoing mode
going_as mode other e on = subst IsGoing (sym e) on

-- a stage with frames has a top one
pub topped_by : (a : Stage) → 0 < depth a → IsTopped a
topped_by a some = by a.state.frames refl
  where
    by : (fs : List Frame) → a.state.frames ≡ fs → IsTopped a
    by [] e = absurd (let n = ap length e in omega arith)
    by (top ∷ callers) e = record { top = top; callers = callers; are = e }

module _ (tell : PlacesTellWords) (told : StepsAreTold) (g : Setting) (is : IsSetting g) where
  pub topped : (a b : Stage) → Follows g a b → IsTopped a
  topped a b f = by a.state.frames refl
    where
      by : (fs : List Frame) → a.state.frames ≡ fs → IsTopped a
      by [] e = absurd (subst (λ (fs : List Frame). FramesFit g.program g.types (numbers_of a.state.objects) a.state.mode fs) e f.stands.fits.frames)
      by (top ∷ callers) e = record { top = top; callers = callers; are = e }

  abbrev timing_of : Stage → Timing
  timing_of a = record { read = a.machine.port.read; write = a.machine.port.write; blocks = a.machine.cache.blocks; block_words = a.machine.cache.block_words }

  pub facts_of : (a b : Stage) → Follows g a b → StepFacts g (timing_of a) (tell g is).0 a b
  facts_of a b f = told g (timing_of a) (tell g is).0 a b is (tell g is).1 (record { read = refl; write = refl; blocks = refl; block_words = refl }) f

  pub step_goes : (a b : Stage) → Follows g a b → IsGoing a.state.mode
  step_goes a b f = (facts_of a b f).going

  pub depth_step : (a b : Stage) → Follows g a b → DepthStep a b
  depth_step a b f =
      let facts = facts_of a b f in
      let top = topped a b f in
      let here : depth a ≡ length top.callers + 1 = ap length top.are ∙ omega arith in
      by top.top top.callers here (facts.shape top.top top.callers top.are)
    where
      by : (top : Frame) (callers : List Frame) → depth a ≡ length callers + 1 → FramesStep g.program a.state.mode top callers b.state → DepthStep a b
      by top callers here (moves h) = let n = ap length h.frames in same (omega arith) (going b.state.mode h.going)
      by top callers here (enters h) = let n = ap length h.frames in deeper (omega arith) h.running
      by top callers here (returns h) = let n = ap length h.frames in let m = ap length h.callers_are in back (omega arith) (going_as b.state.mode Running h.still tt)
      by top callers here (drops h) = let n = ap length h.frames in let m = ap length h.callers_are in back (omega arith) (going_as b.state.mode (Raising h.object) h.still tt)
      by top callers here (stops alone ended) = let m = ap length alone in over (omega arith) (λ going. ended (going_on b.state.mode going))

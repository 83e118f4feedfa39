-- What a step from one boundary to the next takes, and what it does to the frames.
use Rattle.std.specs.Prelude.{◌≡◌, ℕ, ◌+◌, ◌≤◌, true, List, [], ◌∷◌, Some, None}
use Rattle.std.specs.declared.option.Option.{Option}
use Rattle.base.specs.Packed.{words_of_bytes}
use Rattle.method_cache.specs.Contents.{is_cached}
use Rattle.method_cache.specs.Regions.LookUps.{after, stall_of_loads}
use Rattle.bytecode_model.specs.declared.Ending.TheVariants.{Running}
use Rattle.bytecode_model.specs.State.{Frame}
use Rattle.bytecode_model.specs.Program.{Program, Body, body_of}
use Rattle.bytecode_typing.specs.Fits.{IsGoing}
use Rattle.image_facts.specs.Places.{Places}
use Rattle.machine_stands.specs.Comes.{found_by}
use Rattle.method_flow.specs.Calls.{IsStartOf}
use Rattle.method_flow.specs.declared.timing.Timing.{Timing}
use Rattle.method_flow.specs.Costs.{IsOwnCost}
use Rattle.method_flow.specs.Shapes.{node_of, FramesStep}
use Rattle.activations.specs.Timing.{HasTiming}
use Rattle.activations.specs.Setting.{Setting, IsSetting}
use Rattle.activations.specs.Activations.{Stage, Follows}

-- the words of the methods' codes, by the methods' places in memory
abbrev pub AreWords : Program → Places → (ℕ → List ℕ) → Type 0
AreWords P pl words = (m : ℕ) (b : Body) → body_of P m ≡ Some b → words (pl.method m) ≡ words_of_bytes b.code

-- methods with code lie at different places, so each place tells the words of the one that lies there
abbrev pub PlacesTellWords : Type 0
PlacesTellWords = (g : Setting) → IsSetting g → (words : ℕ → List ℕ) × AreWords g.program g.places words

-- the place of the method that is looked up, if one is
abbrev pub place_of : Places → Option ℕ → List ℕ
place_of pl None = []
place_of pl (Some k) = pl.method k ∷ []

-- the look-ups of a step, by the places of methods: none or one
abbrev pub looked_up : Setting → (a b : Stage) → List ℕ
looked_up g a b = place_of g.places (found_by a.state b.state)

-- What is known of a step, where methods have these words in memory.
pub record StepFacts (g : Setting) (t : Timing) (words : ℕ → List ℕ) (a b : Stage) : Type 0 where
  -- its cycles are those of the microcode and the stall of its look-up
  pub micro : ℕ
  pub clock : b.machine.clock ≡ a.machine.clock + (micro + stall_of_loads words t.read (looked_up g a b) a.machine.cache)
  pub cache : b.machine.cache ≡ after words (looked_up g a b) a.machine.cache
  pub timing : HasTiming t b.machine
  -- those of the microcode are at most the own cost of the node at which the top frame stands
  pub costs : (f : Frame) (callers : List Frame) (c : ℕ) → a.state.frames ≡ f ∷ callers → IsOwnCost g.program t f.method (node_of a.state.mode f) c → micro ≤ c
  -- while a frame runs, its method is in the cache
  pub cached : (f : Frame) (callers : List Frame) → a.state.frames ≡ f ∷ callers → a.state.mode ≡ Running
      → is_cached (g.places.method f.method) a.machine.cache ≡ true
  pub going : IsGoing a.state.mode
  pub start : (f : Frame) (callers : List Frame) → a.state.frames ≡ f ∷ callers → IsStartOf g.program f.method f.pc
  pub shape : (f : Frame) (callers : List Frame) → a.state.frames ≡ f ∷ callers → FramesStep g.program a.state.mode f callers b.state

abbrev pub StepsAreTold : Type 0
StepsAreTold = (g : Setting) (t : Timing) (words : ℕ → List ℕ) (a b : Stage) → IsSetting g → AreWords g.program g.places words → HasTiming t a.machine
    → Follows g a b → StepFacts g t words a b

-- Which methods the machine loads in an activation of a method, and while the activation's frame stays in a loop of it.
use Rattle.std.specs.Prelude.{◌≡◌, ◌⊎◌, ℕ, suc, ◌+◌, ◌%◌, ◌^◌, not, List, [], ◌∷◌, ◌++◌, length, filter, All, Contains}
use Rattle.method_cache.specs.Contents.{is_cached}
use Rattle.method_cache.specs.Regions.Region.{AreDistinct}
use Rattle.method_cache.specs.Regions.LookUps.{loads}
use Rattle.method_flow.specs.Nodes.{RaiseAt, number_of}
use Rattle.method_flow.specs.declared.timing.Timing.{Timing}
use Rattle.bound_rules.specs.Fitting.{RegionFits, LoopFits}
use Rattle.activations.specs.Setting.{Setting, IsSetting}
use Rattle.activations.specs.Activations.{Stage, Follows, depth, IsActivation}
use Rattle.activations.specs.Steps.{AreWords, looked_up}
use Rattle.activations.specs.Timing.{HasTiming}
use Rattle.activations.specs.Keeping.{node_at, stages_of}

-- ---- steps, from a boundary over further ones

-- what they look up, in order, by the places of methods
abbrev pub look_ups_over : Setting → (a : Stage) → (further : List Stage) → List ℕ
look_ups_over g a [] = []
look_ups_over g a (b ∷ bs) = looked_up g a b ++ look_ups_over g b bs

-- what a step loads: the method that it looks up, where the cache doesn't hold it
abbrev pub step_loads : Setting → (a b : Stage) → List ℕ
step_loads g a b = filter (λ place. not (is_cached place a.machine.cache)) (looked_up g a b)

-- what they load, in order
abbrev pub loads_over : Setting → (a : Stage) → (further : List Stage) → List ℕ
loads_over g a [] = []
loads_over g a (b ∷ bs) = step_loads g a b ++ loads_over g b bs

-- The machine counts a miss just where a step loads.
abbrev pub LoadsAreMisses : Type 0
LoadsAreMisses = (g : Setting) (a b : Stage) → Follows g a b → b.machine.misses % 2 ^ 64 ≡ (a.machine.misses + length (step_loads g a b)) % 2 ^ 64

-- ---- activations

-- Where all that may run while a method does fits the cache together, an activation of it loads each method at most once, whatever the cache held. Its last
-- step, by which control goes back to the caller, is left out.
abbrev pub ActivationsLoadOnce : Type 0
ActivationsLoadOnce =
    (g : Setting) (t : Timing) (m : ℕ) (a b : Stage) (h : IsActivation g m a b) → IsSetting g → HasTiming t a.machine → RegionFits g.program t m
    → AreDistinct (loads_over g a (stages_of h))

-- What it loads are the loads of its look-ups one after another, from the cache that the machine has at the invoke.
abbrev pub LoadsAreOfLookUps : Type 0
LoadsAreOfLookUps =
    (g : Setting) (t : Timing) (words : ℕ → List ℕ) (m : ℕ) (a b : Stage) (h : IsActivation g m a b) → IsSetting g → AreWords g.program g.places words
    → HasTiming t a.machine → loads_over g a (stages_of h) ≡ loads words (look_ups_over g a (stages_of h)) a.machine.cache

-- ---- stays in loops

-- a member of a loop, or a raise step
abbrev pub IsMemberOrRaise : (members : List ℕ) → (node : ℕ) → Type 0
IsMemberOrRaise members u = Contains members u ⊎ ((p : ℕ) × (u ≡ number_of (RaiseAt p)))

-- Steps over these boundaries, each of which with so many frames begins at such a node.
abbrev pub BeginAmong : (frames : ℕ) → (members : List ℕ) → (a : Stage) → (further : List Stage) → Type 0
BeginAmong n members a [] = Unit {0}
BeginAmong n members a (b ∷ bs) = All (IsMemberOrRaise members) (node_at n a) × BeginAmong n members b bs

-- A part of an activation while its frame stays in a loop of its method. Control comes from one boundary to the frame, at the next one, and goes on over
-- further ones; each of these further steps that is the frame's own begins at a member of the loop, or at a raise step. What is called there is part of it.
pub record LoopStay {g : Setting} {m : ℕ} {a b : Stage} (h : IsActivation g m a b) (members : List ℕ) : Type 0 where
  pub before : List Stage
  pub from : Stage
  pub entry : Stage
  pub further : List Stage
  pub after : List Stage
  pub split : a ∷ stages_of h ≡ before ++ from ∷ (entry ∷ (further ++ after))
  pub own : depth entry ≡ suc (depth a)
  pub among : BeginAmong (suc (depth a)) members entry further

-- Where the method, and what the calls in a loop of it may run, fit the cache together, such a stay loads each method at most once, whatever the cache held,
-- from the step by which control comes to the loop to the one by which it leaves it, and on through the raise step where it leaves by a raise.
abbrev pub StaysLoadOnce : Type 0
StaysLoadOnce =
    (g : Setting) (t : Timing) (m : ℕ) (a b : Stage) (h : IsActivation g m a b) (members : List ℕ) (stay : LoopStay h members) → IsSetting g
    → HasTiming t a.machine → LoopFits g.program t m members → AreDistinct (loads_over g stay.from (stay.entry ∷ stay.further))

-- What is seen of a run at its boundaries, and the activations of methods in the run.
use Rattle.std.specs.Prelude.{◌≡◌, ◌↔◌, List, [], ◌∷◌, ◌++◌, map, Contains}
use Rattle.std.specs.List.Sorted.{IsStrictlyIncreasing}
use Rattle.bytecode_model.specs.State.{Frame}
use Rattle.bytecode_typing.specs.Fits.{IsGoing}
use Rattle.run_follower.specs.declared.here.Here.{Here}
use Rattle.run_follower.specs.declared.watch.activation.Activation.{Activation}
use Rattle.run_follower.specs.Watch.Watched.{activations}
use Rattle.activations.specs.Setting.{Setting, IsSetting}
use Rattle.activations.specs.Activations.{Stage, Follows, depth, IsActivation}

-- the machine's counts, how many frames there are, and the method and the place of the top one
pub record IsSeen (a : Stage) (h : Here) : Type 0 where
  pub clock : h.clock ≡ a.machine.clock
  pub misses : h.misses ≡ a.machine.misses
  pub frames : h.frames ≡ depth a
  pub top : (f : Frame) (callers : List Frame) → a.state.frames ≡ f ∷ callers → (h.method ≡ f.method) × (h.pc ≡ f.pc)

-- the last boundary is seen where the program goes on
abbrev pub IsSeenLast : Stage → List Here → Type 0
IsSeenLast a [] = ¬ IsGoing a.state.mode
IsSeenLast a (h ∷ []) = IsGoing a.state.mode × IsSeen a h
IsSeenLast a (h ∷ k ∷ hs) = ⊥

-- the boundaries of a run, each of which follows the one before it, and what is seen of them
abbrev pub AreSeen : Setting → List Stage → List Here → Type 0
AreSeen g [] hs = ⊥
AreSeen g (a ∷ []) hs = IsSeenLast a hs
AreSeen g (a ∷ b ∷ stages) [] = ⊥
AreSeen g (a ∷ b ∷ stages) (h ∷ hs) = Follows g a b × IsSeen a h × AreSeen g (b ∷ stages) hs

-- an ended activation in the run, whose boundaries stand there one behind another, and of which this is seen
pub record IsActivationIn (g : Setting) (stages : List Stage) (x : Activation) : Type 0 where
  pub earlier : List Stage
  pub begun : Stage
  pub ended : Stage
  pub later : List Stage
  pub is : IsActivation g x.method begun ended
  pub stand : stages ≡ earlier ++ (begun ∷ is.first ∷ (is.between ++ (ended ∷ later)))
  pub begun_is : IsSeen begun x.begun
  pub ended_is : IsSeen ended x.ended

-- of all that is seen, the activations are these
abbrev pub ActivationsAreSeen : Type 0
ActivationsAreSeen =
    (g : Setting) (stages : List Stage) (heres : List Here) → IsSetting g → AreSeen g stages heres
    → (x : Activation) → Contains (activations heres) x ↔ IsActivationIn g stages x

-- each once, in the order in which they begin
abbrev pub ActivationsAreSeenOnce : Type 0
ActivationsAreSeenOnce =
    (g : Setting) (stages : List Stage) (heres : List Here) → AreSeen g stages heres
    → IsStrictlyIncreasing (map (λ (x : Activation). x.begun.clock) (activations heres))

-- What is told of the activations of a run: within what is counted, and by the bounds of their methods.
use Rattle.std.specs.Prelude.{◌≡◌, ℕ, ◌^◌, ◌<◌, ◌≤◌, List, [], ◌∷◌, All, MatchOption}
use Rattle.std.specs.declared.option.Option.{Option}
use Rattle.run_follower.specs.declared.here.Here.{Here}
use Rattle.run_follower.specs.declared.watch.activation.Activation.{Activation}
use Rattle.run_follower.specs.declared.watch.profile.Profile.{Profile}
use Rattle.run_follower.specs.Watch.Watched.{activations, of_method, profile_of}
use Rattle.run_follower.specs.Watch.Promises.{AreCountsWithin}
use Rattle.method_flow.specs.declared.timing.Timing.{Timing}
use Rattle.method_flow.specs.Keeping.{BoundOf}
use Rattle.activations.specs.Setting.{Setting, IsSetting, Stands}
use Rattle.activations.specs.Activations.{Stage}
use Rattle.activations.specs.Timing.{HasTiming}
use Rattle.activations.specs.Keeping.{Keeps}
use Rattle.activations.specs.Warrant.{BoundsActivations}
use Rattle.activation_laws.specs.Seen.{AreSeen, IsActivationIn}

-- at the last of these boundaries the machine stands for the state
abbrev pub LastStands : Setting → List Stage → Type 0
LastStands g [] = ⊥
LastStands g (a ∷ []) = Stands g a.machine a.state
LastStands g (a ∷ b ∷ stages) = LastStands g (b ∷ stages)

-- What is seen of a run has no more frames than the machine has on-chip words, and where its counts have 64 bits, so has its own number.
abbrev pub SeenAreWithin : Type 0
SeenAreWithin =
    (g : Setting) (stages : List Stage) (heres : List Here) → IsSetting g → AreSeen g stages heres → LastStands g stages
    → All (λ (h : Here). (h.clock < 2 ^ 64) × (h.misses < 2 ^ 64)) heres → AreCountsWithin g.chip heres

-- ---- the bounds

-- the machine of the first boundary has this timing
abbrev pub FirstHasTiming : Timing → List Stage → Type 0
FirstHasTiming t [] = ⊥
FirstHasTiming t (a ∷ stages) = HasTiming t a.machine

-- each ended activation of the method in the run keeps the bounds of loops
abbrev pub EachKeeps : Setting → List Stage → BoundOf → (method : ℕ) → Type 0
EachKeeps g stages bound_of m = (x : Activation) (is : IsActivationIn g stages x) → x.method ≡ m → Keeps bound_of is.is

-- the greatest number of cycles is within the bound; where that is never, no activation ended
abbrev pub ProfileIsWithin : Profile → (bound : Option ℕ) → Type 0
ProfileIsWithin row bound = MatchOption bound (row.count ≡ 0) (λ most. row.most ≤ most)

-- A bound of a method is kept by what a profile tells of it, where each of its activations keeps the bounds of loops.
abbrev pub ProfilesKeepBounds : Type 0
ProfilesKeepBounds =
    (g : Setting) (stages : List Stage) (heres : List Here) (t : Timing) (bound_of : BoundOf) (m : ℕ) (bound : Option ℕ) → IsSetting g
    → AreSeen g stages heres → FirstHasTiming t stages → BoundsActivations g.program t bound_of m bound → EachKeeps g stages bound_of m
    → ProfileIsWithin (profile_of (of_method m (activations heres))) bound

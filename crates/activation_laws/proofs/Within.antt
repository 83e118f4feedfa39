-- What is seen of a run is within what is counted.
use Rattle.std.proofs.Common.{◌≡◌, ℕ, ◌^◌, ◌<◌, ◌≤◌, List, [], ◌∷◌, length, map, All, Contains, Some, None, ap, inl, inr, arith}
use Rattle.std.specs.List.Sorted.{IsStrictlyIncreasing}
use Rattle.std.proofs.lemmas.List.Elements.{All-nil, All-cons, All-weaker}
use Rattle.std.proofs.lemmas.List.Sums.{sum_by-cons}
use Rattle.lists.proofs.Lemmas.{some_is}
use Rattle.lists.specs.Members.{cons_cases, nil_contains}
use Rattle.jop_core.specs.State as machine
use Rattle.jop_core.specs.Keeps.{CyclesKeep}
use Rattle.bytecode_model.specs.State.{Frame, State}
use Rattle.bytecode_model.specs.Program.{Program, body_of}
use Rattle.bytecode_model.specs.Sizes.{body_words, frame_words, frames_words}
use Rattle.bytecode_model.specs.WellFormed as formed
use Rattle.bytecode_typing.specs.Laws.{FittingStatesAreWellFormed}
use Rattle.run_follower.specs.declared.here.Here.{Here}
use Rattle.run_follower.specs.Watch.Promises.{RisingAreFew}
use Rattle.activations.specs.Setting.{Setting, IsSetting, Stands, limits}
use Rattle.activations.specs.Activations.{Stage}
use Rattle.activation_laws.specs.Seen.{IsSeen, AreSeen}
use Rattle.activation_laws.specs.Profiled.{LastStands, SeenAreWithin}
use Rattle.activation_laws.proofs.Once.{step_takes, none_rise, more_rise}
use Rattle.activation_laws.proofs.Searching.{seen_first}

-- ---- frames

-- each frame takes some words
few_frames : (P : Program) (n : ℕ) (fs : List Frame) → formed.AreFrames P n fs → length fs ≤ frames_words P fs
few_frames P n [] are = omega arith
few_frames P n (f ∷ fs) are =
    let (b, is, frame) = some_is (body_of P f.method) (formed.IsFrame P n f) are.0 in
    let here : frame_words P f ≡ body_words b = ap (λ o. elim o [ None ↦ 0 | Some b ↦ body_words b ]) is in
    omega (arith, here, few_frames P n fs are.1, sum_by-cons (frame_words P) f fs)

module _ (fit : FittingStatesAreWellFormed) (g : Setting) (is : IsSetting g) where
  frames_few : (m : machine.MachineState) (s : State) → Stands g m s → length s.frames ≤ g.chip
  frames_few m s stands =
      let w = fit g.program g.types (limits g) is.typed s stands.fits in
      omega (arith, few_frames g.program (length s.objects) s.frames w.frames, w.frame_sum)

  seen_few : (a : Stage) (h : Here) → Stands g a.machine a.state → IsSeen a h → h.frames ≤ g.chip
  seen_few a h stands seen = omega (arith, seen.frames, frames_few a.machine a.state stands)

  abbrev AreFew : List Here → Type 0
  AreFew heres = All (λ (h : Here). h.frames ≤ g.chip) heres

  abbrev IsFew : Here → Type 0
  IsFew h = h.frames ≤ g.chip

  all_few : (stages : List Stage) (heres : List Here) → AreSeen g stages heres → LastStands g stages → AreFew heres
  all_few [] heres seen last = absurd seen
  all_few (a ∷ []) [] seen last = All-nil IsFew
  all_few (a ∷ []) (h ∷ []) seen last = All-cons IsFew h [] (seen_few a h last seen.1) (All-nil IsFew)
  all_few (a ∷ []) (h ∷ k ∷ hs) seen last = absurd seen
  all_few (a ∷ b ∷ stages) [] seen last = absurd seen
  all_few (a ∷ b ∷ stages) (h ∷ hs) seen last = All-cons IsFew h hs (seen_few a h seen.0.stands seen.1) (all_few (b ∷ stages) hs seen.2 last)

-- ---- clocks

abbrev clock_of : Here → ℕ
clock_of h = h.clock

-- they rise, from this one on
record RiseFrom (clock : ℕ) (ns : List ℕ) : Type 0 where
  rise : IsStrictlyIncreasing ns
  most : (n : ℕ) → Contains ns n → clock ≤ n

one_rises : (n : ℕ) → RiseFrom n (n ∷ [])
one_rises n = record {
  rise = more_rise n [] none_rise (λ m has. absurd (nil_contains m has));
  most = λ m has. elim (cons_cases n m [] has) [ inl same ↦ omega arith | inr there ↦ absurd (nil_contains m there) ];
}

more_from : (n next : ℕ) (ns : List ℕ) → n < next → RiseFrom next ns → RiseFrom n (n ∷ ns)
more_from n next ns lt h = record {
  rise = more_rise n ns h.rise (λ m has. let least = h.most m has in omega arith);
  most = λ m has. elim (cons_cases n m ns has) [ inl same ↦ omega arith | inr there ↦ (let least = h.most m there in omega arith) ];
}

module _ (keep : CyclesKeep) (g : Setting) where
  rising : (a : Stage) (stages : List Stage) (h : Here) (hs : List Here) → AreSeen g (a ∷ stages) (h ∷ hs) → RiseFrom h.clock (map clock_of (h ∷ hs))
  rising a stages h [] seen = one_rises h.clock
  rising a [] h (k ∷ ks) seen = absurd seen
  rising a (b ∷ stages) h (k ∷ ks) seen =
      let up = step_takes keep g a b seen.0 in
      let p = seen.1.clock in
      let q = (seen_first g b stages k ks seen.2).clock in
      more_from h.clock k.clock (map clock_of (k ∷ ks)) (omega arith) (rising b stages k ks seen.2)

  clocks_rise : (stages : List Stage) (heres : List Here) → AreSeen g stages heres → IsStrictlyIncreasing (map clock_of heres)
  clocks_rise [] heres seen = absurd seen
  clocks_rise (a ∷ stages) [] seen = none_rise
  clocks_rise (a ∷ stages) (h ∷ hs) seen = (rising a stages h hs seen).rise

pub seen_are_within : FittingStatesAreWellFormed → CyclesKeep → RisingAreFew → SeenAreWithin
seen_are_within fit keep few g stages heres is seen last small =
    let clocks = All-weaker (λ (h : Here). (h.clock < 2 ^ 64) × (h.misses < 2 ^ 64)) (λ (h : Here). h.clock < 2 ^ 64) (λ h both. both.0) heres small in
    let misses = All-weaker (λ (h : Here). (h.clock < 2 ^ 64) × (h.misses < 2 ^ 64)) (λ (h : Here). h.misses < 2 ^ 64) (λ h both. both.1) heres small in
    record { frames = all_few fit g is stages heres seen last; clocks = clocks; misses = misses; few = few heres (clocks_rise keep g stages heres seen) clocks }

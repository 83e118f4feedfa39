-- No two activations begin at one boundary of a run, since the clock rises from each to the next.
use Rattle.std.proofs.Common.{◌≡◌, ℕ, zero, suc, ◌+◌, ◌<◌, ◌≤◌, Bool, List, [], ◌∷◌, ◌++◌, map, get_or, Contains, Option, Some, None, sym, ap, subst, inl, inr, arith}
use Rattle.std.specs.Prelude.{find, if◌then◌else◌}
use Rattle.std.specs.List.Sorted.{IsStrictlyIncreasing}
use Rattle.std.proofs.lemmas.Bool.{cases_lt, lt-ltb, le-ltb}
use Rattle.lists.specs.Members.{at_head, cons_cases, nil_contains}
use Rattle.jop_core.specs.State as machine
use Rattle.jop_core.specs.Cycle.{asks_input}
use Rattle.jop_core.specs.Keeps.{CyclesKeep}
use Rattle.jop_core.specs.Scene.{Scene, next_scene, given, begun, run}
use Rattle.run_follower.specs.declared.here.Here.{Here}
use Rattle.run_follower.specs.declared.watch.activation.Activation.{Activation}
use Rattle.run_follower.specs.Watch.Watched.{has_frames, ended_with, begun_between, activations_from, activations}
use Rattle.activations.specs.Setting.{Setting}
use Rattle.activations.specs.Activations.{Stage, Follows}
use Rattle.activation_laws.specs.Seen.{AreSeen, ActivationsAreSeenOnce}
use Rattle.activation_laws.proofs.Searching.{seen_first}

-- ---- the clock rises

module _ (keep : CyclesKeep) where
  clock_after : (n : ℕ) (c : Scene) → (run n c).state.clock ≡ c.state.clock + n
  clock_after zero c = omega arith
  clock_after (suc n) c = omega (arith, clock_after n (next_scene c), (keep (given (asks_input c.state) c.answers) c.state).clock)

  pub step_takes : (g : Setting) (a b : Stage) → Follows g a b → a.machine.clock < b.machine.clock
  step_takes g a b f =
      let ends = ap (λ (m : machine.MachineState). m.clock) (f.comes.ran []) in
      let is = ap (λ (m : machine.MachineState). m.clock) f.new_is in
      omega (arith, ends, is, clock_after f.comes.cycles (begun a.machine (f.comes.answers ++ [])), f.comes.positive)

-- ---- numbers that rise

pub none_rise : IsStrictlyIncreasing []
none_rise k lt = absurd (omega arith)

-- one that is less than the first of others
pub more_rise : (n : ℕ) (ns : List ℕ) → IsStrictlyIncreasing ns → ((m : ℕ) → Contains ns m → n < m) → IsStrictlyIncreasing (n ∷ ns)
more_rise n [] rise less k lt = absurd (omega arith)
more_rise n (m ∷ ns) rise less zero lt = less m (at_head m ns)
more_rise n (m ∷ ns) rise less (suc k) lt =
    let next : suc (k + 1) ≡ suc k + 1 = omega arith in
    let P : ℕ → Type 0 = λ i. get_or (m ∷ ns) k 0 < get_or (n ∷ m ∷ ns) i 0 in
    subst P next (rise k (omega arith))

-- ---- the beginnings

abbrev begun_clock : Activation → ℕ
begun_clock x = x.begun.clock

-- these begin from a clock on, one after another
record BeginFrom (clock : ℕ) (xs : List Activation) : Type 0 where
  rise : IsStrictlyIncreasing (map begun_clock xs)
  most : (n : ℕ) → Contains (map begun_clock xs) n → clock ≤ n

none_begin : (clock : ℕ) → BeginFrom clock []
none_begin clock = record { rise = none_rise; most = λ n has. absurd (nil_contains n has) }

later_begin : (clock next : ℕ) (xs : List Activation) → clock < next → BeginFrom next xs → BeginFrom clock xs
later_begin clock next xs lt h = record { rise = h.rise; most = λ n has. let m = h.most n has in omega arith }

one_begins : (a : Here) (m : ℕ) (o : Option Here) (next : ℕ) (xs : List Activation) → a.clock < next → BeginFrom next xs → BeginFrom a.clock (ended_with a m o ++ xs)
one_begins a m None next xs lt h = later_begin a.clock next xs lt h
one_begins a m (Some c) next xs lt h = record {
  rise = more_rise a.clock (map begun_clock xs) h.rise (λ n has. let least = h.most n has in omega arith);
  most = λ n has. elim (cons_cases a.clock n (map begun_clock xs) has) [ inl same ↦ omega arith | inr there ↦ (let least = h.most n there in omega arith) ];
}

begin_between : (h k : Here) (ks : List Here) (xs : List Activation) → h.clock < k.clock → BeginFrom k.clock xs → BeginFrom h.clock (begun_between h k ks ++ xs)
begin_between h k ks xs lt from =
    let B : Bool → Type 0 = λ b. BeginFrom h.clock ((if b then ended_with h k.method (find (has_frames h.frames) ks) else []) ++ xs) in
    elim (cases_lt h.frames k.frames) [
      | inl deeper ↦ subst B (sym (lt-ltb h.frames k.frames deeper)) (one_begins h k.method (find (has_frames h.frames) ks) k.clock xs lt from)
      | inr ge ↦ subst B (sym (le-ltb h.frames k.frames ge)) (later_begin h.clock k.clock xs lt from)
    ]

module _ (keep : CyclesKeep) (g : Setting) where
  all_begin : (a : Stage) (stages : List Stage) (h : Here) (hs : List Here) → AreSeen g (a ∷ stages) (h ∷ hs) → BeginFrom h.clock (activations_from h hs)
  all_begin a stages h [] seen = none_begin h.clock
  all_begin a [] h (k ∷ ks) seen = absurd seen
  all_begin a (b ∷ stages) h (k ∷ ks) seen =
      let up = step_takes keep g a b seen.0 in
      let p = seen.1.clock in
      let q = (seen_first g b stages k ks seen.2).clock in
      begin_between h k ks (activations_from k ks) (omega arith) (all_begin b stages k ks seen.2)

  pub seen_once : (stages : List Stage) (heres : List Here) → AreSeen g stages heres → IsStrictlyIncreasing (map begun_clock (activations heres))
  seen_once [] heres seen = absurd seen
  seen_once (a ∷ stages) [] seen = none_rise
  seen_once (a ∷ stages) (h ∷ hs) seen = (all_begin a stages h hs seen).rise

pub activations_are_seen_once : CyclesKeep → ActivationsAreSeenOnce
activations_are_seen_once keep g stages heres seen = seen_once keep g stages heres seen

-- The activations that end at the boundaries of a run, in the order of their endings, come to the same as those of the run in the order of their beginnings.
use Rattle.std.proofs.Common.{◌≡◌, ◌≢◌, ℕ, zero, suc, ◌+◌, ◌<◌, ◌≤◌, nat_eq, nat_lt, Bool, true, false, cond, List, [], ◌∷◌, ◌++◌, length, get_or, set, replicate, Option, Some, None, refl, sym, ap, ap₂, ◌∙◌, inl, inr, arith}
use Rattle.std.specs.Prelude.{find}
use Rattle.std.specs.Option.{option_to_list}
use Rattle.std.proofs.lemmas.Bool.{cond-true, cond-false, cases_lt, cases_eq, eq-eqb, ne_eqb, lt-ltb, le-ltb, ltb-true}
use Rattle.std.proofs.lemmas.List.{length-set, get_or-set_other, set_past, get_or_past, get_or-replicate, length-replicate}
use Rattle.lists.proofs.Lemmas.{none≢some}
use Rattle.run_follower.specs.declared.here.Here.{Here}
use Rattle.run_follower.specs.declared.watch.activation.Begun.{Begun}
use Rattle.run_follower.specs.declared.watch.activation.Activation.{Activation}
use Rattle.run_follower.specs.Watch.Watched.{has_frames, ended_with, begun_between, activations_from}
use Rattle.run_follower.specs.Watch.Opened.{ended_by, ended_at, begun_into}
use Rattle.run_follower.specs.Watch.Promises.{begins_below}
use Rattle.run_follower.proofs.WatchLemmas.Combined.{IsCombining, swapped, unit_right, combined, combined-option, combined-append, value, only}

-- those that are held at the next boundary
abbrev pub held_at : (a b : Here) → List (Option Begun) → List (Option Begun)
held_at a b held = begun_into a b (set held b.frames None)

-- those that end at these boundaries, behind the boundary a, where some are held
abbrev pub endings : Here → List (Option Begun) → List Here → List Activation
endings a held [] = []
endings a held (b ∷ later) = option_to_list (ended_at held b) ++ endings b (held_at a b held) later

-- ---- what those that are held come to

abbrev pub ended_then : Option Begun → Option Here → Option Activation
ended_then None c = None
ended_then (Some b) None = None
ended_then (Some b) (Some c) = Some record { begun = b.here; method = b.method; ended = c }

-- the number of one that began with so many frames
abbrev pub at_end : (Activation → ℕ) → (frames : ℕ) → Option Begun → List Here → ℕ
at_end f n o later = value f (ended_then o (find (has_frames n) later))

abbrev pub awaited : (ℕ → ℕ → ℕ) → (Activation → ℕ) → (frames : ℕ) → List (Option Begun) → List Here → ℕ
awaited op f n [] later = 0
awaited op f n (o ∷ held) later = op (at_end f n o later) (awaited op f (suc n) held later)

then_nowhere : (f : Activation → ℕ) (o : Option Begun) → value f (ended_then o None) ≡ 0
then_nowhere f None = refl
then_nowhere f (Some b) = refl

then_here : (f : Activation → ℕ) (b : Here) (o : Option Begun) → value f (ended_then o (Some b)) ≡ value f (ended_by b o)
then_here f b None = refl
then_here f b (Some x) = refl

pub awaited-nowhere : {op : ℕ → ℕ → ℕ} → IsCombining op → (f : Activation → ℕ) (n : ℕ) (held : List (Option Begun)) → awaited op f n held [] ≡ 0
awaited-nowhere h f n [] = refl
awaited-nowhere {op} h f n (o ∷ held) = ap₂ op (then_nowhere f o) (awaited-nowhere h f (suc n) held) ∙ h.unit 0

-- none is held
pub record IsEmpty (held : List (Option Begun)) : Type 0 where
  pub none : (i : ℕ) → get_or held i None ≡ None

empty_tail : (o : Option Begun) (held : List (Option Begun)) → IsEmpty (o ∷ held) → IsEmpty held
empty_tail o held h = record { none = λ i. h.none (suc i) }

pub awaited-empty : {op : ℕ → ℕ → ℕ} → IsCombining op → (f : Activation → ℕ) (n : ℕ) (held : List (Option Begun)) (later : List Here) → IsEmpty held → awaited op f n held later ≡ 0
awaited-empty h f n [] later e = refl
awaited-empty {op} h f n (o ∷ held) later e =
    ap₂ op (ap (λ (o : Option Begun). at_end f n o later) (e.none 0)) (awaited-empty h f (suc n) held later (empty_tail o held e)) ∙ h.unit 0

-- a boundary with other numbers of frames
find_other : (n : ℕ) (b : Here) (later : List Here) → b.frames ≢ n → find (has_frames n) (b ∷ later) ≡ find (has_frames n) later
find_other n b later ne = cond-false (nat_eq b.frames n) (Some b) (find (has_frames n) later) (ne_eqb b.frames n ne)

find_same : (n : ℕ) (b : Here) (later : List Here) → b.frames ≡ n → find (has_frames n) (b ∷ later) ≡ Some b
find_same n b later e = cond-true (nat_eq b.frames n) (Some b) (find (has_frames n) later) (eq-eqb b.frames n e)

awaited-below : {op : ℕ → ℕ → ℕ} → IsCombining op → (f : Activation → ℕ) (n : ℕ) (held : List (Option Begun)) (b : Here) (later : List Here) → b.frames < n → awaited op f n held (b ∷ later) ≡ awaited op f n held later
awaited-below h f n [] b later lt = refl
awaited-below {op} h f n (o ∷ held) b later lt =
    ap₂ op (ap (λ (c : Option Here). value f (ended_then o c)) (find_other n b later (omega arith))) (awaited-below h f (suc n) held b later (omega arith))

-- at a boundary the one ends that began with as many frames, and the others go on
awaited-cons : {op : ℕ → ℕ → ℕ} → IsCombining op → (f : Activation → ℕ) (n j : ℕ) (held : List (Option Begun)) (b : Here) (later : List Here) → b.frames ≡ n + j
    → awaited op f n held (b ∷ later) ≡ op (value f (ended_by b (get_or held j None))) (awaited op f n (set held j None) later)
awaited-cons h f n j [] b later e = sym (h.unit 0)
awaited-cons {op} h f n zero (o ∷ held) b later e =
    let here : at_end f n o (b ∷ later) ≡ value f (ended_by b o) = ap (λ (c : Option Here). value f (ended_then o c)) (find_same n b later (omega arith)) ∙ then_here f b o in
    ap₂ op here (awaited-below h f (suc n) held b later (omega arith) ∙ sym (h.unit (awaited op f (suc n) held later)))
awaited-cons {op} h f n (suc j) (o ∷ held) b later e =
    let here : at_end f n o (b ∷ later) ≡ at_end f n o later = ap (λ (c : Option Here). value f (ended_then o c)) (find_other n b later (omega arith)) in
    ap₂ op here (awaited-cons h f (suc n) j held b later (omega arith))
    ∙ swapped h (at_end f n o later) (value f (ended_by b (get_or held j None))) (awaited op f (suc n) (set held j None) later)

-- one more that is held
awaited-set : {op : ℕ → ℕ → ℕ} → IsCombining op → (f : Activation → ℕ) (n j k : ℕ) (held : List (Option Begun)) (x : Begun) (later : List Here) → k ≡ n + j → j < length held → get_or held j None ≡ None
    → awaited op f n (set held j (Some x)) later ≡ op (at_end f k (Some x) later) (awaited op f n held later)
awaited-set h f n j k [] x later e lt none = absurd (omega arith)
awaited-set {op} h f n zero k (Some y ∷ held) x later e lt none = absurd (none≢some y (sym none))
awaited-set {op} h f n zero k (None ∷ held) x later e lt none =
    let same : n ≡ k = omega arith in
    ap₂ op (ap (λ (n : ℕ). at_end f n (Some x) later) same) (sym (h.unit (awaited op f (suc n) held later)))
awaited-set {op} h f n (suc j) k (o ∷ held) x later e lt none =
    ap (op (at_end f n o later)) (awaited-set h f (suc n) j k held x later (omega arith) (omega arith) none)
    ∙ swapped h (at_end f n o later) (at_end f k (Some x) later) (awaited op f (suc n) held later)

-- ---- the one that begins

-- the number of one that begins with fewer frames than there are places
abbrev pub below : (places : ℕ) → (Activation → ℕ) → Activation → ℕ
below places f = only (begins_below places) f

within_case : {op : ℕ → ℕ → ℕ} → IsCombining op → (f : Activation → ℕ) (places : ℕ) (a : Here) (m : ℕ) (c : Option Here) → a.frames < places
    → combined op (below places f) (ended_with a m c) ≡ value f (ended_then (Some record { here = a; method = m }) c)
within_case h f places a m None lt = refl
within_case {op} h f places a m (Some c) lt =
    unit_right h _ ∙ cond-true (nat_lt a.frames places) (f record { begun = a; method = m; ended = c }) 0 (lt-ltb a.frames places lt)

past_case : {op : ℕ → ℕ → ℕ} → IsCombining op → (f : Activation → ℕ) (places : ℕ) (a : Here) (m : ℕ) (c : Option Here) → places ≤ a.frames → combined op (below places f) (ended_with a m c) ≡ 0
past_case h f places a m None le = refl
past_case {op} h f places a m (Some c) le =
    unit_right h _ ∙ cond-false (nat_lt a.frames places) (f record { begun = a; method = m; ended = c }) 0 (le-ltb a.frames places le)

deeper_case : {op : ℕ → ℕ → ℕ} → IsCombining op → (f : Activation → ℕ) (a b : Here) (held : List (Option Begun)) (later : List Here) → get_or held a.frames None ≡ None
    → awaited op f 0 (set held a.frames (Some record { here = a; method = b.method })) later
    ≡ op (awaited op f 0 held later) (combined op (below (length held) f) (ended_with a b.method (find (has_frames a.frames) later)))
deeper_case {op} h f a b held later none =
    elim (cases_lt a.frames (length held)) [
      | inl lt ↦
          awaited-set h f 0 a.frames a.frames held record { here = a; method = b.method } later (omega arith) lt none
          ∙ h.comm _ _
          ∙ ap (op (awaited op f 0 held later)) (sym (within_case h f (length held) a b.method (find (has_frames a.frames) later) lt))
      | inr le ↦
          ap (λ (held : List (Option Begun)). awaited op f 0 held later) (set_past held a.frames (Some record { here = a; method = b.method }) le)
          ∙ sym (unit_right h (awaited op f 0 held later))
          ∙ ap (op (awaited op f 0 held later)) (sym (past_case h f (length held) a b.method (find (has_frames a.frames) later) le))
    ]

begun_case : {op : ℕ → ℕ → ℕ} → IsCombining op → (f : Activation → ℕ) (a b : Here) (held : List (Option Begun)) (later : List Here) (deeper : Bool) → get_or held a.frames None ≡ None
    → awaited op f 0 (cond deeper (set held a.frames (Some record { here = a; method = b.method })) held) later
    ≡ op (awaited op f 0 held later) (combined op (below (length held) f) (cond deeper (ended_with a b.method (find (has_frames a.frames) later)) []))
begun_case h f a b held later true none = deeper_case h f a b held later none
begun_case {op} h f a b held later false none = sym (unit_right h (awaited op f 0 held later))

-- ---- from one boundary to the next

-- nothing that began with as many frames as there are is held
none_there : (held : List (Option Begun)) (i : ℕ) → get_or (set held i None) i None ≡ None
none_there [] i = refl
none_there (o ∷ held) zero = refl
none_there (o ∷ held) (suc i) = none_there held i

still_none : (held : List (Option Begun)) (i j : ℕ) → get_or held j None ≡ None → get_or (set held i None) j None ≡ None
still_none held i j none =
    elim (cases_eq j i) [
      | inl same ↦ ap (λ (j : ℕ). get_or (set held i None) j None) same ∙ none_there held i
      | inr other ↦ get_or-set_other held i j None None other ∙ none
    ]

next_case : (a b : Here) (held : List (Option Begun)) (deeper : Bool) → nat_lt a.frames b.frames ≡ deeper → get_or held b.frames None ≡ None
    → get_or (cond deeper (set held a.frames (Some record { here = a; method = b.method })) held) b.frames None ≡ None
next_case a b held true d none =
    let lt = ltb-true a.frames b.frames d in
    get_or-set_other held a.frames b.frames _ None (omega arith) ∙ none
next_case a b held false d none = none

next_none : (a b : Here) (held : List (Option Begun)) → get_or (held_at a b held) b.frames None ≡ None
next_none a b held = next_case a b (set held b.frames None) (nat_lt a.frames b.frames) refl (none_there held b.frames)

into_case : (a b : Here) (held : List (Option Begun)) (deeper : Bool) → length (cond deeper (set held a.frames (Some record { here = a; method = b.method })) held) ≡ length held
into_case a b held true = length-set held a.frames _
into_case a b held false = refl

next_length : (a b : Here) (held : List (Option Begun)) → length (held_at a b held) ≡ length held
next_length a b held = into_case a b (set held b.frames None) (nat_lt a.frames b.frames) ∙ length-set held b.frames None

-- ---- a whole run

shuffled : {op : ℕ → ℕ → ℕ} → IsCombining op → (e w n m : ℕ) → op e (op (op w n) m) ≡ op (op e w) (op n m)
shuffled {op} h e w n m = ap (op e) (h.assoc w n m) ∙ sym (h.assoc e w (op n m))

pub combined-endings : {op : ℕ → ℕ → ℕ} → IsCombining op → (f : Activation → ℕ) (places : ℕ) (a : Here) (held : List (Option Begun)) (later : List Here) → length held ≡ places → get_or held a.frames None ≡ None
    → combined op f (endings a held later) ≡ op (awaited op f 0 held later) (combined op (below places f) (activations_from a later))
combined-endings {op} h f places a held [] long none = sym (ap (λ (n : ℕ). op n 0) (awaited-nowhere h f 0 held) ∙ h.unit 0)
combined-endings {op} h f places a held (b ∷ later) long none =
    let ended : ℕ = value f (ended_at held b) in
    let rest : List (Option Begun) = set held b.frames None in
    let n : ℕ = combined op (below places f) (begun_between a b later) in
    let m : ℕ = combined op (below places f) (activations_from b later) in
    let same : length rest ≡ places = length-set held b.frames None ∙ long in
    let begins : awaited op f 0 (held_at a b held) later ≡ op (awaited op f 0 rest later) n =
    begun_case h f a b rest later (nat_lt a.frames b.frames) (still_none held b.frames a.frames none)
    ∙ ap (λ (k : ℕ). op (awaited op f 0 rest later) (combined op (below k f) (begun_between a b later))) same in
    let whole = combined-endings h f places b (held_at a b held) later (next_length a b held ∙ long) (next_none a b held) in
    combined-option h f (ended_at held b) (endings b (held_at a b held) later)
    ∙ ap (op ended) whole
    ∙ ap (λ (k : ℕ). op ended (op k m)) begins
    ∙ shuffled h ended (awaited op f 0 rest later) n m
    ∙ ap₂ op (sym (awaited-cons h f 0 b.frames held b later (omega arith))) (sym (combined-append h (below places f) (begun_between a b later) (activations_from b later)))

-- the same where none is held at first
pub combined-all : {op : ℕ → ℕ → ℕ} → IsCombining op → (f : Activation → ℕ) (places : ℕ) (a : Here) (held : List (Option Begun)) (later : List Here) → length held ≡ places → IsEmpty held
    → combined op f (endings a held later) ≡ combined op (below places f) (activations_from a later)
combined-all {op} h f places a held later long empty =
    combined-endings h f places a held later long (empty.none a.frames)
    ∙ ap (λ (n : ℕ). op n (combined op (below places f) (activations_from a later))) (awaited-empty h f 0 held later empty)
    ∙ h.unit _

-- ---- at the first boundary

held_none : (frames i : ℕ) → (let held : List (Option Begun) = replicate frames None in get_or held i None) ≡ None
held_none frames i =
    elim (cases_lt i frames) [
      | inl lt ↦ get_or-replicate frames i None None lt
      | inr le ↦ get_or_past (replicate frames None) i None (let long = length-replicate {A = Option Begun} frames None in omega arith)
    ]

pub first_ended : (frames : ℕ) (a : Here) → ended_at (replicate frames None) a ≡ None
first_ended frames a = ap (ended_by a) (held_none frames a.frames)

pub first_held : (frames : ℕ) (a : Here) → IsEmpty (set (replicate frames None) a.frames None)
first_held frames a = record { none = λ i. still_none (replicate frames None) a.frames i (held_none frames i) }

pub first_length : (frames : ℕ) (a : Here) → (let held : List (Option Begun) = set (replicate frames None) a.frames None in length held) ≡ frames
first_length frames a = length-set {A = Option Begun} (replicate frames None) a.frames None ∙ length-replicate frames None

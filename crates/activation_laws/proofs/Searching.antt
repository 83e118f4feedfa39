-- The search for the end of an activation finds the boundary at which it ended.
use Rattle.std.proofs.Common.{◌≡◌, ℕ, ◌<◌, Bool, cond, List, [], ◌∷◌, ◌++◌, length, Contains, Option, Some, None, refl, sym, ap, ◌∙◌, subst, inl, inr, arith}
use Rattle.std.specs.Prelude.{find, if◌then◌else◌}
use Rattle.std.proofs.lemmas.Bool.{cases_eq, cases_lt, eq-eqb, ne_eqb, lt-ltb, le-ltb}
use Rattle.std.proofs.lemmas.List.Elements.{Contains-append_left, Contains-append_right, Contains-append_cases}
use Rattle.lists.proofs.Lemmas.{none≢some, some_same}
use Rattle.lists.specs.Members.{at_head, cons_cases, nil_contains}
use Rattle.bytecode_model.specs.declared.Ending.TheVariants.{Running}
use Rattle.bytecode_typing.specs.Fits.{IsGoing}
use Rattle.machine_stands.specs.Comes.{top_method}
use Rattle.run_follower.specs.declared.here.Here.{Here}
use Rattle.run_follower.specs.declared.watch.activation.Activation.{Activation}
use Rattle.run_follower.specs.Watch.Watched.{has_frames, ended_with, begun_between, activations_from, activations}
use Rattle.activations.specs.Setting.{Setting, IsSetting}
use Rattle.activations.specs.Activations.{Stage, Follows, depth, StaysAbove, IsActivation}
use Rattle.activations.specs.Steps.{PlacesTellWords, StepsAreTold}
use Rattle.activation_laws.specs.Seen.{IsSeen, AreSeen, IsActivationIn, ActivationsAreSeen}
use Rattle.activation_laws.proofs.Depths.{IsTopped, DepthStep, topped, topped_by, step_goes, depth_step}
use Rattle.activation_laws.proofs.Depths.DepthStep.{same, deeper, back, over}

-- ---- what is seen of one boundary

pub seen_first : (g : Setting) (a : Stage) (stages : List Stage) (h : Here) (hs : List Here) → AreSeen g (a ∷ stages) (h ∷ hs) → IsSeen a h
seen_first g a [] h [] seen = seen.1
seen_first g a [] h (k ∷ hs) seen = absurd seen
seen_first g a (b ∷ stages) h hs seen = seen.1

-- it is the same wherever it is seen
same_here : (a : Stage) (h k : Here) → IsTopped a → IsSeen a h → IsSeen a k → h ≡ k
same_here a h k top s t =
    let p = s.top top.top top.callers top.are in
    let q = t.top top.top top.callers top.are in
    let clock = s.clock ∙ sym t.clock in
    let misses = s.misses ∙ sym t.misses in
    let frames = s.frames ∙ sym t.frames in
    let method = p.0 ∙ sym q.0 in
    let pc = p.1 ∙ sym q.1 in
    let A : ℕ → Here = λ x. record { clock = x; misses = h.misses; frames = h.frames; method = h.method; pc = h.pc } in
    let B : ℕ → Here = λ x. record { clock = k.clock; misses = x; frames = h.frames; method = h.method; pc = h.pc } in
    let C : ℕ → Here = λ x. record { clock = k.clock; misses = k.misses; frames = x; method = h.method; pc = h.pc } in
    let D : ℕ → Here = λ x. record { clock = k.clock; misses = k.misses; frames = k.frames; method = x; pc = h.pc } in
    let E : ℕ → Here = λ x. record { clock = k.clock; misses = k.misses; frames = k.frames; method = k.method; pc = x } in
    ap A clock ∙ (ap B misses ∙ (ap C frames ∙ (ap D method ∙ ap E pc)))

-- ---- the search

find_here : (d : ℕ) (k : Here) (ks : List Here) → k.frames ≡ d → find (has_frames d) (k ∷ ks) ≡ Some k
find_here d k ks is = ap (λ (b : Bool). cond b (Some k) (find (has_frames d) ks)) (eq-eqb k.frames d is)

find_later : (d : ℕ) (k : Here) (ks : List Here) → (k.frames ≡ d → ⊥) → find (has_frames d) (k ∷ ks) ≡ find (has_frames d) ks
find_later d k ks other = ap (λ (b : Bool). cond b (Some k) (find (has_frames d) ks)) (ne_eqb k.frames d other)

-- where the frames come back to so many, over these boundaries
pub record ComesBack (g : Setting) (d : ℕ) (b : Stage) (stages : List Stage) (c : Here) : Type 0 where
  pub between : List Stage
  pub ended : Stage
  pub later : List Stage
  pub stand : stages ≡ between ++ (ended ∷ later)
  pub stays : StaysAbove g d b between ended
  pub ends : depth ended ≡ d
  pub seen : IsSeen ended c

module _ (tell : PlacesTellWords) (told : StepsAreTold) (g : Setting) (is : IsSetting g) (d : ℕ) (some : 0 < d) where
  still_above : (b c : Stage) → d < depth b → Follows g b c → (depth c ≡ d → ⊥) → d < depth c
  still_above b c above f other = by (depth_step tell told g is b c f)
    where
      by : DepthStep b c → d < depth c
      by (same e on) = omega arith
      by (deeper e running) = omega arith
      by (back e on) = elim (cases_lt d (depth c)) [ inl lt ↦ lt | inr ge ↦ absurd (other (omega arith)) ]
      by (over alone ended) = absurd (omega arith)

  -- what is found is the end
  pub found_back : (b : Stage) (stages : List Stage) (k : Here) (ks : List Here) (c : Here) → d < depth b → AreSeen g (b ∷ stages) (k ∷ ks) → find (has_frames d) ks ≡ Some c → ComesBack g d b stages c
  found_back b [] k [] c above seen e = absurd (none≢some c e)
  found_back b [] k (l ∷ ks) c above seen e = absurd seen
  found_back b (n ∷ stages) k [] c above seen e = absurd (none≢some c e)
  found_back b (n ∷ stages) k (l ∷ ks) c above seen e =
      let at = seen_first g n stages l ks seen.2 in
      elim (cases_eq l.frames d) [
        | inl here ↦
            let I : Here → Type 0 = λ x. IsSeen n x in
            record {
              between = [];
              ended = n;
              later = stages;
              stand = refl;
              stays = seen.0;
              ends = sym at.frames ∙ here;
              seen = subst I (some_same l c (sym (find_here d l ks here) ∙ e)) at;
            }
        | inr other ↦
            let over_it : d < depth n = still_above b n above seen.0 (λ x. other (at.frames ∙ x)) in
            let rest = found_back n stages l ks c over_it seen.2 (sym (find_later d l ks other) ∙ e) in
            record {
              between = n ∷ rest.between;
              ended = rest.ended;
              later = rest.later;
              stand = ap (λ (xs : List Stage). n ∷ xs) rest.stand;
              stays = (over_it, seen.0, rest.stays);
              ends = rest.ends;
              seen = rest.seen;
            }
      ]

  -- and the end is found
  pub back_found : (b : Stage) (between : List Stage) (ended : Stage) (later : List Stage) (k : Here) (ks : List Here) (c : Here) → d < depth b → AreSeen g (b ∷ (between ++ (ended ∷ later))) (k ∷ ks) → StaysAbove g d b between ended
      → depth ended ≡ d → IsSeen ended c → find (has_frames d) ks ≡ Some c
  back_found b [] ended later k [] c above seen stays ends at = absurd (no_end later seen.2)
    where
      by_step : (IsGoing ended.state.mode → ⊥) → DepthStep b ended → ⊥
      by_step over_now (same e on) = over_now on
      by_step over_now (deeper e running) = omega arith
      by_step over_now (back e on) = over_now on
      by_step over_now (over alone not) = omega arith

      no_end : (xs : List Stage) → AreSeen g (ended ∷ xs) [] → ⊥
      no_end [] last = by_step last (depth_step tell told g is b ended seen.0)
      no_end (x ∷ xs) none = none
  back_found b [] ended later k (l ∷ ks) c above seen stays ends at =
      let here = seen_first g ended later l ks seen.2 in
      find_here d l ks (here.frames ∙ ends) ∙ ap (λ (x : Here). Some x) (same_here ended l c (topped_by ended (omega arith)) here at)
  back_found b (n ∷ between) ended later k [] c above seen stays ends at = absurd (cut between seen.2)
    where
      cut : (xs : List Stage) → AreSeen g (n ∷ (xs ++ (ended ∷ later))) [] → ⊥
      cut [] none = none
      cut (x ∷ xs) none = none
  back_found b (n ∷ between) ended later k (l ∷ ks) c above seen stays ends at =
      let here = seen_first g n (between ++ (ended ∷ later)) l ks seen.2 in
      let over_it = stays.0 in
      let e = here.frames in
      find_later d l ks (λ x. omega arith) ∙ back_found n between ended later l ks c over_it seen.2 stays.2 ends at

-- ---- what begins between two boundaries

begun_if : (h k : Here) (ks : List Here) (x : Activation) → Contains (begun_between h k ks) x → (h.frames < k.frames) × ((c : Here) × (find (has_frames h.frames) ks ≡ Some c) × (x ≡ record { begun = h; method = k.method; ended = c }))
begun_if h k ks x has =
    elim (cases_lt h.frames k.frames) [
      | inl lt ↦
          let B : Bool → Type 0 = λ b. Contains (if b then ended_with h k.method (find (has_frames h.frames) ks) else []) x in
          (lt, by (find (has_frames h.frames) ks) refl (subst B (lt-ltb h.frames k.frames lt) has))
      | inr ge ↦
          let B : Bool → Type 0 = λ b. Contains (if b then ended_with h k.method (find (has_frames h.frames) ks) else []) x in
          absurd (nil_contains x (subst B (le-ltb h.frames k.frames ge) has))
    ]
  where
    by : (o : Option Here) → find (has_frames h.frames) ks ≡ o → Contains (ended_with h k.method o) x → (c : Here) × (find (has_frames h.frames) ks ≡ Some c) × (x ≡ record { begun = h; method = k.method; ended = c })
    by None e has' = absurd (nil_contains x has')
    by (Some c) e has' = elim (cons_cases (record { begun = h; method = k.method; ended = c }) x [] has') [ inl this ↦ (c, e, sym this) | inr there ↦ absurd (nil_contains x there) ]

begun_where : (h k : Here) (ks : List Here) (c : Here) → h.frames < k.frames → find (has_frames h.frames) ks ≡ Some c → Contains (begun_between h k ks) (record { begun = h; method = k.method; ended = c })
begun_where h k ks c lt e =
    let x : Activation = record { begun = h; method = k.method; ended = c } in
    let B : Bool → Type 0 = λ b. Contains (if b then ended_with h k.method (find (has_frames h.frames) ks) else []) x in
    let O : Option Here → Type 0 = λ o. Contains (ended_with h k.method o) x in
    subst B (sym (lt-ltb h.frames k.frames lt)) (subst O (sym e) (at_head x []))

-- ---- the activations

module _ (tell : PlacesTellWords) (told : StepsAreTold) (g : Setting) (is : IsSetting g) where
  -- the program goes on where it is seen
  seen_on : (b : Stage) (stages : List Stage) (k : Here) (ks : List Here) → AreSeen g (b ∷ stages) (k ∷ ks) → IsGoing b.state.mode
  seen_on b [] k [] seen = seen.0
  seen_on b [] k (l ∷ ks) seen = absurd seen
  seen_on b (c ∷ stages) k ks seen = step_goes tell told g is b c seen.0

  method_of : (b : Stage) (k : Here) (top : IsTopped b) → IsSeen b k → top_method b.state.frames ≡ Some k.method
  method_of b k top s = ap top_method top.are ∙ ap (λ (m : ℕ). Some m) (sym (s.top top.top top.callers top.are).0)

  -- one that is found to begin at the first boundary
  one_found : (a b : Stage) (stages : List Stage) (h k : Here) (ks : List Here) (x : Activation) → AreSeen g (a ∷ b ∷ stages) (h ∷ k ∷ ks) → Contains (begun_between h k ks) x → IsActivationIn g (a ∷ b ∷ stages) x
  one_found a b stages h k ks x seen has =
      let found = begun_if h k ks x has in
      let here = seen.1 in
      let next = seen_first g b stages k ks seen.2 in
      let lt : depth a < depth b = let l = found.0 in let p = here.frames in let q = next.frames in omega arith in
      let top = topped tell told g is a b seen.0 in
      let some : 0 < depth a = let n = ap length top.are in omega arith in
      let F : ℕ → Type 0 = λ d. find (has_frames d) ks ≡ Some found.1.0 in
      let back = found_back tell told g is (depth a) some b stages k ks found.1.0 lt seen.2 (subst F here.frames found.1.1) in
      let A : Activation → Type 0 = λ y. IsActivationIn g (a ∷ b ∷ stages) y in
      subst A (sym found.1.2) (record {
        earlier = [];
        begun = a;
        ended = back.ended;
        later = back.later;
        is = record {
          running = runs lt (seen_on b stages k ks seen.2) (depth_step tell told g is a b seen.0);
          first = b;
          begins = seen.0;
          deeper = lt;
          of_method = method_of b k (topped_by b (omega arith)) next;
          between = back.between;
          stays = back.stays;
          ends = back.ends;
        };
        stand = ap (λ (xs : List Stage). a ∷ b ∷ xs) back.stand;
        begun_is = here;
        ended_is = back.seen;
      })
    where
      runs : depth a < depth b → IsGoing b.state.mode → DepthStep a b → a.state.mode ≡ Running
      runs lt going (same e on) = absurd (omega arith)
      runs lt going (deeper e running) = running
      runs lt going (back e on) = absurd (omega arith)
      runs lt going (over alone not) = absurd (not going)

  behind : (a : Stage) (stages : List Stage) (x : Activation) → IsActivationIn g stages x → IsActivationIn g (a ∷ stages) x
  behind a stages x h = record {
    earlier = a ∷ h.earlier;
    begun = h.begun;
    ended = h.ended;
    later = h.later;
    is = h.is;
    stand = ap (λ (xs : List Stage). a ∷ xs) h.stand;
    begun_is = h.begun_is;
    ended_is = h.ended_is;
  }

  pub all_found : (stages : List Stage) (heres : List Here) → AreSeen g stages heres → (x : Activation) → Contains (activations heres) x → IsActivationIn g stages x
  all_found [] heres seen x has = absurd seen
  all_found (a ∷ []) [] seen x has = absurd (nil_contains x has)
  all_found (a ∷ []) (h ∷ []) seen x has = absurd (nil_contains x has)
  all_found (a ∷ []) (h ∷ k ∷ hs) seen x has = absurd seen
  all_found (a ∷ b ∷ stages) [] seen x has = absurd seen
  all_found (a ∷ b ∷ stages) (h ∷ []) seen x has = absurd (nil_contains x has)
  all_found (a ∷ b ∷ stages) (h ∷ k ∷ ks) seen x has =
      elim (Contains-append_cases (begun_between h k ks) (activations_from k ks) x has) [
        | inl here ↦ one_found a b stages h k ks x seen here
        | inr later ↦ behind a (b ∷ stages) x (all_found (b ∷ stages) (k ∷ ks) seen.2 x later)
      ]

  -- and each of the run is found
  module _ (x : Activation) (begun ended : Stage) (later : List Stage) (h_is : IsActivation g x.method begun ended) (begun_is : IsSeen begun x.begun) (ended_is : IsSeen ended x.ended) where
    abbrev rest : List Stage
    rest = h_is.between ++ (ended ∷ later)

    none_rest : (between : List Stage) → AreSeen g (h_is.first ∷ (between ++ (ended ∷ later))) [] → ⊥
    none_rest [] none = none
    none_rest (m ∷ ms) none = none

    here_there : (h k : Here) (ks : List Here) → AreSeen g (begun ∷ h_is.first ∷ rest) (h ∷ k ∷ ks) → Contains (begun_between h k ks) x
    here_there h k ks seen =
        let top = topped tell told g is begun h_is.first h_is.begins in
        let next = seen_first g h_is.first rest k ks seen.2 in
        let first_top = topped_by h_is.first (let deep = h_is.deeper in omega arith) in
        let same_begun : h ≡ x.begun = same_here begun h x.begun top seen.1 begun_is in
        let same_method : k.method ≡ x.method = some_same k.method x.method (sym (method_of h_is.first k first_top next) ∙ h_is.of_method) in
        let some : 0 < depth begun = let n = ap length top.are in omega arith in
        let deep = h_is.deeper in
        let p = seen.1.frames in
        let q = next.frames in
        let F : ℕ → Type 0 = λ d. find (has_frames d) ks ≡ Some x.ended in
        let found = back_found tell told g is (depth begun) some h_is.first h_is.between ended later k ks x.ended deep seen.2 h_is.stays h_is.ends ended_is in
        let A : Activation → Type 0 = λ y. Contains (begun_between h k ks) y in
        let as_begun : Here → Activation = λ y. record { begun = y; method = k.method; ended = x.ended } in
        let as_method : ℕ → Activation = λ y. record { begun = x.begun; method = y; ended = x.ended } in
        subst A (ap as_begun same_begun ∙ ap as_method same_method) (begun_where h k ks x.ended (omega arith) (subst F (sym p) found))

    there : (earlier : List Stage) (heres : List Here) → AreSeen g (earlier ++ (begun ∷ h_is.first ∷ rest)) heres → Contains (activations heres) x
    there [] [] seen = absurd seen
    there [] (h ∷ []) seen = absurd (none_rest h_is.between seen.2)
    there [] (h ∷ k ∷ ks) seen = Contains-append_left (begun_between h k ks) (activations_from k ks) x (here_there h k ks seen)
    there (p ∷ []) [] seen = absurd seen
    there (p ∷ []) (h ∷ []) seen = absurd seen.2
    there (p ∷ []) (h ∷ k ∷ ks) seen = Contains-append_right (begun_between h k ks) (activations_from k ks) x (there [] (k ∷ ks) seen.2)
    there (p ∷ q ∷ qs) [] seen = absurd seen
    there (p ∷ q ∷ qs) (h ∷ []) seen = absurd (none qs seen.2)
      where
        none : (ms : List Stage) → AreSeen g (q ∷ (ms ++ (begun ∷ h_is.first ∷ rest))) [] → ⊥
        none [] bad = bad
        none (m ∷ ms) bad = bad
    there (p ∷ q ∷ qs) (h ∷ k ∷ ks) seen = Contains-append_right (begun_between h k ks) (activations_from k ks) x (there (q ∷ qs) (k ∷ ks) seen.2)

  pub all_there : (stages : List Stage) (heres : List Here) → AreSeen g stages heres → (x : Activation) → IsActivationIn g stages x → Contains (activations heres) x
  all_there stages heres seen x h =
      let S : List Stage → Type 0 = λ xs. AreSeen g xs heres in
      there x h.begun h.ended h.later h.is h.begun_is h.ended_is h.earlier heres (subst S h.stand seen)

pub activations_are_seen : PlacesTellWords → StepsAreTold → ActivationsAreSeen
activations_are_seen tell told g stages heres is seen x = (all_found tell told g is stages heres seen x, all_there tell told g is stages heres seen x)

-- The depth-first walk, step by step.
use Rattle.std.proofs.Common.{◌≡◌, ◌≢◌, ℕ, ◌+◌, ◌-◌, ◌<◌, Bool, List, [], ◌∷◌, ◌++◌, length, get_or, set, take, drop, All, Contains, Some, refl, sym, ap, ◌∙◌, subst, inl, inr, arith}
use Rattle.std.specs.Prelude.{slice_get}
use Rattle.std.proofs.lemmas.Bool.{cases_eq, cases_lt}
use Rattle.std.proofs.lemmas.List.{length-set, length-append, length-drop, get_or-set_same, get_or-set_other, get_or_past, get_or_append_left, get_or_push, get_or-drop, take-append-le, take_at}
use Rattle.std.proofs.lemmas.List.Sums.{sum_by-set}
use Rattle.std.proofs.lemmas.List.Elements.{All-from_get_or, All-weaker, All-contains, Contains-push, Contains-push_cases, Contains-append_left, Contains-get_or}
use Rattle.std.proofs.lemmas.Option.{slice_get-get_or, slice_get_within, get_or_from_slice_get}
use Rattle.lists.specs.Members.{nil_contains}
use Rattle.method_cache.specs.Regions.Region.{AreDistinct}
use Rattle.method_flow.specs.Flow.{Flow, targets_of_call}
use Rattle.call_regions.specs.Tables.{IsOfTable, Runs, IsReached}
use Rattle.call_regions.specs.Tables.IsReached.{later}
use Rattle.call_regions.specs.Walking.{state_of, IsDone, steps_of, steps_left, AreWalked, IsVisit, AreMethodsDone, AreMethods, IsRing, IsTableOrder}
use Rattle.call_regions.specs.declared.walk.State.{State}
use Rattle.call_regions.specs.declared.walk.State.TheVariants.{New, Open, Done}
use Rattle.call_regions.specs.declared.walk.Visit.{Visit}
use Rattle.call_regions.proofs.Lists.{distinct_push}
use Rattle.call_regions.proofs.Exploring.{runs_one}

-- ---- states

same_state : (states : List State) (x : ℕ) (s : State) → x < length states → state_of (set states x s) x ≡ s
same_state states x s lt = get_or-set_same states x s New lt

other_state : (states : List State) (t x : ℕ) (s : State) → x ≢ t → state_of (set states t s) x ≡ state_of states x
other_state states t x s other = get_or-set_other states t x s New other

-- a method that the walk has come to is in the table
pub inside : (states : List State) (x : ℕ) → state_of states x ≢ New → x < length states
inside states x come = elim (cases_lt x (length states)) [ inl lt ↦ lt | inr past ↦ absurd (come (get_or_past states x New past)) ]

pub open≢new : (s : State) → s ≡ Open → s ≢ New
open≢new s is e = let bad : Open ≡ New = sym is ∙ e in absurd (cc)

pub done≢new : (s : State) → s ≡ Done → s ≢ New
done≢new s is e = let bad : Done ≡ New = sym is ∙ e in absurd (cc)

pub open≢done : (s : State) → s ≡ Open → s ≡ Done → ⊥
open≢done s is e = let bad : Open ≡ Done = sym is ∙ e in absurd (cc)

pub new_state : (s : State) → s ≢ Open → s ≢ Done → s ≡ New
new_state New a b = refl
new_state Open a b = absurd (a refl)
new_state Done a b = absurd (b refl)

-- what is done stays done
done_stays : (states : List State) (t : ℕ) (s : State) → (IsDone states t → s ≡ Done) → (x : ℕ) → IsDone states x → IsDone (set states t s) x
done_stays states t s keep x is =
    elim (cases_eq x t) [
      | inl same ↦
          let P : ℕ → Type 0 = λ z. IsDone states z in
          let at : IsDone states t = subst P same is in
          ap (state_of (set states t s)) same ∙ same_state states t s (inside states t (done≢new (state_of states t) at)) ∙ keep at
      | inr other ↦ other_state states t x s other ∙ is
    ]

pub opening : (states : List State) (t : ℕ) → t < length states → state_of states t ≡ New → steps_left (set states t Open) < steps_left states
opening states t lt is =
    let e = sum_by-set steps_of states t Open New lt in
    let f : steps_of (get_or states t New) ≡ 2 = ap steps_of is in
    omega arith

pub closing : (states : List State) (t : ℕ) → state_of states t ≡ Open → steps_left (set states t Done) < steps_left states
closing states t is =
    let e = sum_by-set steps_of states t Done New (inside states t (open≢new (state_of states t) is)) in
    let f : steps_of (get_or states t New) ≡ 1 = ap steps_of is in
    omega arith

-- ---- lists

pub All-front : {X : Type 0} (P : X → Type 0) (xs ys : List X) → All P (xs ++ ys) → All P xs
All-front P xs ys all k d lt = subst P (get_or_append_left xs ys d k lt) (all k d (omega (arith, length-append xs ys)))

pub All-last : {X : Type 0} (P : X → Type 0) (xs : List X) (x : X) → All P (xs ++ x ∷ []) → P x
All-last P xs x all = All-contains P (xs ++ x ∷ []) x all (Contains-push xs x)

distinct_front : (xs : List ℕ) (x : ℕ) → AreDistinct (xs ++ x ∷ []) → AreDistinct xs
distinct_front xs x apart i j d less below same =
    apart i j d less (omega (arith, length-append xs (x ∷ [])))
    (get_or_append_left xs (x ∷ []) d i (omega arith) ∙ same ∙ sym (get_or_append_left xs (x ∷ []) d j below))

distinct_last : (xs : List ℕ) (x : ℕ) → AreDistinct (xs ++ x ∷ []) → Contains xs x → ⊥
distinct_last xs x apart c =
    let lt = c.1 in
    apart c.0 (length xs) x lt (omega (arith, length-append xs (x ∷ [])))
    (get_or_append_left xs (x ∷ []) x c.0 lt ∙ c.2 ∙ sym (get_or_push xs x x (length xs) refl))

-- ---- the methods of a walk

module _ (f : Flow) (root : ℕ) where
  -- a method is opened behind one that runs it
  pub opens : (states : List State) (front : List ℕ) (m t : ℕ) (done : List ℕ) → AreMethods f root states (front ++ m ∷ []) done → Runs f m t → t < length states → state_of states t ≡ New
      → AreMethods f root (set states t Open) ((front ++ m ∷ []) ++ t ∷ []) done
  opens states front m t done was runs lt new' =
      let path = front ++ m ∷ [] in
      let after = set states t Open in
      let come : state_of states m ≡ Open = (was.open_are m).1 (Contains-push front m) in
      let not_open : Contains path t → ⊥ = λ c. open≢new (state_of states t) ((was.open_are t).1 c) new' in
      record {
        long = length-set states t Open ∙ was.long;
        open_are = λ x.
            elim (cases_eq x t) [
              | inl same ↦ (
                λ _. let P : ℕ → Type 0 = λ z. Contains (path ++ t ∷ []) z in subst P (sym same) (Contains-push path t),
                λ _. ap (state_of after) same ∙ same_state states t Open lt,
              )
              | inr other ↦ (
                λ is. Contains-append_left path (t ∷ []) x ((was.open_are x).0 (sym (other_state states t x Open other) ∙ is)),
                λ c. elim (Contains-push_cases path t x c) [
                  | inl there ↦ other_state states t x Open other ∙ (was.open_are x).1 there
                  | inr same ↦ absurd (other (sym same))
                ],
              )
            ];
        done_are = λ x.
            elim (cases_eq x t) [
              | inl same ↦ (
                λ is. absurd (open≢done (state_of after x) (ap (state_of after) same ∙ same_state states t Open lt) is),
                λ c. absurd (done≢new (state_of states x) ((was.done_are x).1 c) (ap (state_of states) same ∙ new')),
              )
              | inr other ↦ (
                λ is. (was.done_are x).0 (sym (other_state states t x Open other) ∙ is),
                λ c. other_state states t x Open other ∙ (was.done_are x).1 c,
              )
            ];
        open_once = distinct_push path t was.open_once not_open;
        done_once = was.done_once;
        runs = λ i below.
            let long = length-append path (t ∷ []) in
            let path_long = length-append front (m ∷ []) in
            let within : i < length path = omega arith in
            let here = get_or_append_left path (t ∷ []) 0 i within in
            let R : ℕ → ℕ → Type 0 = λ x y. Runs f x y in
            elim (cases_lt (i + 1) (length path)) [
              | inl less ↦
                  let next = get_or_append_left path (t ∷ []) 0 (i + 1) less in
                  let Q : ℕ → Type 0 = λ x. R x (get_or (path ++ t ∷ []) (i + 1) 0) in
                  let S : ℕ → Type 0 = λ y. R (get_or path i 0) y in
                  subst Q (sym here) (subst S (sym next) (was.runs i less))
              | inr past ↦
                  let last : i ≡ length front = omega arith in
                  let end : length path ≡ i + 1 = omega arith in
                  let is_m : get_or path i 0 ≡ m = get_or_push front m 0 i (sym last) in
                  let is_t : get_or (path ++ t ∷ []) (i + 1) 0 ≡ t = get_or_push path t 0 (i + 1) end in
                  let Q : ℕ → Type 0 = λ x. R x (get_or (path ++ t ∷ []) (i + 1) 0) in
                  let S : ℕ → Type 0 = λ y. R m y in
                  subst Q (sym (here ∙ is_m)) (subst S (sym is_t) runs)
            ];
        behind = was.behind;
        reached = λ x is.
            elim (cases_eq x t) [
              | inl same ↦
                  let P : ℕ → Type 0 = λ z. IsReached f (λ y. y ≡ root) z in
                  subst P (sym same) (later (was.reached m (open≢new (state_of states m) come)) runs)
              | inr other ↦ was.reached x (λ e. is (other_state states t x Open other ∙ e))
            ];
        from =
            elim (cases_eq root t) [
              | inl same ↦ open≢new (state_of after root) (ap (state_of after) same ∙ same_state states t Open lt)
              | inr other ↦ λ e. was.from (sym (other_state states t root Open other) ∙ e)
            ];
      }

  -- the newest is closed, when all that it runs is done
  pub closes : (states : List State) (front : List ℕ) (m : ℕ) (done : List ℕ) → AreMethods f root states (front ++ m ∷ []) done → AreMethodsDone f states m
      → AreMethods f root (set states m Done) front (done ++ m ∷ [])
  closes states front m done was finished =
      let path = front ++ m ∷ [] in
      let after = set states m Done in
      let come : state_of states m ≡ Open = (was.open_are m).1 (Contains-push front m) in
      let lt = inside states m (open≢new (state_of states m) come) in
      let is_done : state_of after m ≡ Done = same_state states m Done lt in
      let not_done : Contains done m → ⊥ = λ c. open≢done (state_of states m) come ((was.done_are m).1 c) in
      record {
        long = length-set states m Done ∙ was.long;
        open_are = λ x.
            elim (cases_eq x m) [
              | inl same ↦ (
                λ is. absurd (open≢done (state_of after x) is (ap (state_of after) same ∙ is_done)),
                λ c. let P : ℕ → Type 0 = λ z. Contains front z in absurd (distinct_last front m was.open_once (subst P same c)),
              )
              | inr other ↦ (
                λ is. elim (Contains-push_cases front m x ((was.open_are x).0 (sym (other_state states m x Done other) ∙ is))) [
                  | inl there ↦ there
                  | inr same ↦ absurd (other (sym same))
                ],
                λ c. other_state states m x Done other ∙ (was.open_are x).1 (Contains-append_left front (m ∷ []) x c),
              )
            ];
        done_are = λ x.
            elim (cases_eq x m) [
              | inl same ↦ (
                λ _. let P : ℕ → Type 0 = λ z. Contains (done ++ m ∷ []) z in subst P (sym same) (Contains-push done m),
                λ _. ap (state_of after) same ∙ is_done,
              )
              | inr other ↦ (
                λ is. Contains-append_left done (m ∷ []) x ((was.done_are x).0 (sym (other_state states m x Done other) ∙ is)),
                λ c. elim (Contains-push_cases done m x c) [
                  | inl there ↦ other_state states m x Done other ∙ (was.done_are x).1 there
                  | inr same ↦ absurd (other (sym same))
                ],
              )
            ];
        open_once = distinct_front front m was.open_once;
        done_once = distinct_push done m was.done_once not_done;
        runs = λ i below.
            let long = length-append front (m ∷ []) in
            let here = get_or_append_left front (m ∷ []) 0 i (omega arith) in
            let next = get_or_append_left front (m ∷ []) 0 (i + 1) below in
            let Q : ℕ → Type 0 = λ x. Runs f x (get_or front (i + 1) 0) in
            let S : ℕ → Type 0 = λ y. Runs f (get_or path i 0) y in
            subst Q here (subst S next (was.runs i (omega arith)));
        behind = λ i x at.
            let within = slice_get_within (done ++ m ∷ []) i x at in
            let long = length-append done (m ∷ []) in
            elim (cases_lt i (length done)) [
              | inl less ↦
                  let e : slice_get done i ≡ Some x =
                  slice_get-get_or done i x less ∙ ap Some (sym (get_or_append_left done (m ∷ []) x i less) ∙ get_or_from_slice_get (done ++ m ∷ []) i x x at) in
                  let before = was.behind i x e in (
                    before.0,
                    λ t runs. let P : List ℕ → Type 0 = λ xs. Contains xs t in subst P (sym (take-append-le i done (m ∷ []) (omega arith))) (before.1 t runs),
                  )
              | inr past ↦
                  let last : length done ≡ i = omega arith in
                  let is_m : m ≡ x = sym (get_or_push done m x i last) ∙ get_or_from_slice_get (done ++ m ∷ []) i x x at in
                  let H : ℕ → Type 0 = λ z. IsOfTable f z × ((t : ℕ) → Runs f z t → Contains (take i (done ++ m ∷ [])) t) in
                  let here : H m = (
                    finished.code,
                    λ t runs.
                        let target = runs_one f m t finished.code.method finished.code.is runs in
                        let is = All-contains (IsDone states) (targets_of_call f target.call) t (finished.targets target.call target.among) target.lists in
                        let P : List ℕ → Type 0 = λ xs. Contains xs t in
                        subst P (sym (take_at done (m ∷ []) i last)) ((was.done_are t).0 is),
                  ) in
                  subst H is_m here
            ];
        reached = λ x is.
            elim (cases_eq x m) [
              | inl same ↦ let P : ℕ → Type 0 = λ z. IsReached f (λ y. y ≡ root) z in subst P (sym same) (was.reached m (open≢new (state_of states m) come))
              | inr other ↦ was.reached x (λ e. is (other_state states m x Done other ∙ e))
            ];
        from =
            elim (cases_eq root m) [
              | inl same ↦ done≢new (state_of after root) (ap (state_of after) same ∙ is_done)
              | inr other ↦ λ e. was.from (sym (other_state states m root Done other) ∙ e)
            ];
      }

  -- a target that is open begins a ring
  pub ring : (states : List State) (front : List ℕ) (m t k : ℕ) (done : List ℕ) → AreMethods f root states (front ++ m ∷ []) done → Runs f m t → slice_get (front ++ m ∷ []) k ≡ Some t
      → IsRing f root (drop k (front ++ m ∷ []))
  ring states front m t k done was runs at =
      let path = front ++ m ∷ [] in
      let ms = drop k path in
      let within : k < length path = slice_get_within path k t at in
      let long = length-drop k path in
      let path_long = length-append front (m ∷ []) in
      let item : (i : ℕ) → get_or ms i 0 ≡ get_or path (k + i) 0 = λ i. get_or-drop k path i 0 in
      let end : length front ≡ k + (length ms - 1) = omega arith in
      let is_m : get_or ms (length ms - 1) 0 ≡ m = item (length ms - 1) ∙ get_or_push front m 0 (k + (length ms - 1)) end in
      let start : k + 0 ≡ k = omega arith in
      let is_t : get_or ms 0 0 ≡ t = item 0 ∙ ap (λ (j : ℕ). get_or path j 0) start ∙ get_or_from_slice_get path k t 0 at in
      record {
        some = omega arith;
        runs = λ i below.
            let over : k + (i + 1) ≡ k + i + 1 = omega arith in
            let Q : ℕ → Type 0 = λ x. Runs f x (get_or ms (i + 1) 0) in
            let S : ℕ → Type 0 = λ y. Runs f (get_or path (k + i) 0) y in
            let next : get_or ms (i + 1) 0 ≡ get_or path (k + i + 1) 0 = item (i + 1) ∙ ap (λ (j : ℕ). get_or path j 0) over in
            subst Q (sym (item i)) (subst S (sym next) (was.runs (k + i) (omega arith)));
        around =
            let Q : ℕ → Type 0 = λ x. Runs f x (get_or ms 0 0) in
            let S : ℕ → Type 0 = λ y. Runs f m y in
            subst Q (sym is_m) (subst S (sym is_t) runs);
        reached = All-from_get_or (IsReached f (λ y. y ≡ root)) ms 0 (λ i below.
            let P : ℕ → Type 0 = λ z. IsReached f (λ y. y ≡ root) z in
            let x = get_or path (k + i) 0 in
            let come : state_of states x ≡ Open = (was.open_are x).1 (Contains-get_or path (k + i) 0 (omega arith)) in
            subst P (sym (item i)) (was.reached x (open≢new (state_of states x) come)));
        distinct = λ i j d less below same. was.open_once (k + i) (k + j) d (omega arith) (omega arith) (sym (get_or-drop k path i d) ∙ same ∙ get_or-drop k path j d);
      }

  -- nothing is open any more
  pub ends : (states : List State) (done : List ℕ) → AreMethods f root states [] done → IsTableOrder f root done
  ends states done was = record {
    once = was.done_once;
    behind = was.behind;
    reached = λ x c. was.reached x (done≢new (state_of states x) ((was.done_are x).1 c));
    from = (was.done_are root).0 (settled (state_of states root) was.from (λ e. nil_contains root ((was.open_are root).0 e)));
  }
    where
      settled : (s : State) → s ≢ New → (s ≡ Open → ⊥) → s ≡ Done
      settled New a b = absurd (a refl)
      settled Open a b = absurd (b refl)
      settled Done a b = refl

-- ---- visits

-- what was looked at stays so
pub visit_stays : (f : Flow) (states : List State) (t : ℕ) (s : State) → (IsDone states t → s ≡ Done) → (v : Visit) → IsVisit f states v → IsVisit f (set states t s) v
visit_stays f states t s keep v was = record {
  within = was.within;
  before = λ k is.
      let done = was.before k is in
      record {
        earlier = λ i c lt at. All-weaker (IsDone states) (IsDone (set states t s)) (done_stays states t s keep) (targets_of_call f c) (done.earlier i c lt at);
        targets = λ c at j x lt there. done_stays states t s keep x (done.targets c at j x lt there);
      };
}

pub walked_stays : (f : Flow) (states : List State) (t : ℕ) (s : State) (walked : List Bool) → (IsDone states t → s ≡ Done) → AreWalked f states walked → AreWalked f (set states t s) walked
walked_stays f states t s walked keep was n is = All-weaker (IsDone states) (IsDone (set states t s)) (done_stays states t s keep) _ (was n is)

-- a method that was just opened
pub fresh_visit : (f : Flow) (states : List State) (v : Visit) → v.method < length f.methods → v.call ≡ 0 → v.target ≡ 0 → IsVisit f states v
fresh_visit f states v within no_call no_target = record {
  within = within;
  before = λ k is. record { earlier = λ i c lt at. absurd (omega arith); targets = λ c at j t lt there. absurd (omega arith) };
}

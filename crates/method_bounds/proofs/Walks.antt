-- The depth-first walk, step by step.
use Rattle.std.proofs.Common.{◌≡◌, ◌≢◌, ◌↔◌, ◌⊎◌, ℕ, zero, suc, ◌+◌, ◌-◌, ◌<◌, Bool, List, [], ◌∷◌, ◌++◌, length, get_or, set, take, drop, replicate, All, Contains, Some, refl, sym, ap, ◌∙◌, subst, inl, inr, arith}
use Rattle.std.specs.Prelude.{slice_get}
use Rattle.std.proofs.lemmas.Bool.{cases_eq, cases_lt, false≢true}
use Rattle.std.proofs.lemmas.List.{length-set, length-append, length-drop, length-replicate, get_or-set_same, get_or-set_other, get_or-replicate, get_or_past, get_or_append_left, get_or_push, get_or-drop, take-append-le, take_at, map_push, nil_from_length}
use Rattle.std.proofs.lemmas.List.Sums.{sum_by-set}
use Rattle.std.proofs.lemmas.List.Elements.{All-nil, All-push, All-from_get_or, All-weaker, All-contains, Contains-push, Contains-push_cases, Contains-append_left}
use Rattle.std.proofs.lemmas.Option.{slice_get-get_or, slice_get_within, get_or_from_slice_get}
use Rattle.lists.proofs.Lemmas.{none≢some, some_same}
use Rattle.lists.specs.Members.{nil_contains}
use Rattle.method_cache.specs.Regions.Region.{AreDistinct}
use Rattle.method_flow.specs.Flow.{Flow, Coded, targets_of_call}
use Rattle.method_flow.specs.declared.flow.Call.{Call}
use Rattle.call_regions.specs.Tables.{IsOfTable, HasCalls, Runs, IsReached}
use Rattle.call_regions.specs.Tables.IsReached.{given, later}
use Rattle.call_regions.specs.Walking.{EachRunsNext, AreBehindTargets, IsRing}
use Rattle.method_bounds.specs.declared.walk.State.{State}
use Rattle.method_bounds.specs.declared.walk.State.TheVariants.{New, Open, Ordered, Recursive}
use Rattle.method_bounds.specs.declared.walk.Visit.{Visit}
use Rattle.method_bounds.specs.declared.walk.Walk.{Walk}
use Rattle.method_bounds.proofs.Tabled.{All-front, All-last, distinct_front, distinct_last, distinct_none, distinct_push, get_contained, runs_one}
use Rattle.method_bounds.specs.Walking.{state_of, IsOrdered, steps_of, steps_left, GoesOn, AreWalked, AreOrdered, AreTargetsOrdered, IsVisit, methods_of, AreMethods, IsWalk, IsAtRest}

-- ---- states

pub open≢new : Open ≡ New → ⊥
open≢new e = cc

pub open≢ordered : Open ≡ Ordered → ⊥
open≢ordered e = cc

pub open≢recursive : Open ≡ Recursive → ⊥
open≢recursive e = cc

pub new≢ordered : New ≡ Ordered → ⊥
new≢ordered e = cc

pub new≢recursive : New ≡ Recursive → ⊥
new≢recursive e = cc

pub ordered≢recursive : Ordered ≡ Recursive → ⊥
ordered≢recursive e = cc

-- a method that the walk has come to is in the table
pub inside : (states : List State) (x : ℕ) → state_of states x ≢ New → x < length states
inside states x come = elim (cases_lt x (length states)) [ inl lt ↦ lt | inr past ↦ absurd (come (get_or_past states x New past)) ]

pub open_inside : (states : List State) (x : ℕ) → state_of states x ≡ Open → x < length states
open_inside states x is = inside states x (λ e. open≢new (sym is ∙ e))

-- one state more
module _ (states : List State) (t : ℕ) (s : State) (lt : t < length states) where
  same_state : state_of (set states t s) t ≡ s
  same_state = get_or-set_same states t s New lt

  other_state : (x : ℕ) → x ≢ t → state_of (set states t s) x ≡ state_of states x
  other_state x other = get_or-set_other states t x s New other

  state_cases : (x : ℕ) → ((x ≡ t) × (state_of (set states t s) x ≡ s)) ⊎ ((x ≢ t) × (state_of (set states t s) x ≡ state_of states x))
  state_cases x =
      elim (cases_eq x t) [
        | inl same ↦ inl (same, ap (state_of (set states t s)) same ∙ same_state)
        | inr other ↦ inr (other, other_state x other)
      ]

  -- what is in the order stays there
  ordered_stays : (IsOrdered states t → s ≡ Ordered) → (x : ℕ) → IsOrdered states x → IsOrdered (set states t s) x
  ordered_stays keep x is =
      elim (state_cases x) [
        | inl here ↦ here.1 ∙ keep (sym (ap (state_of states) here.0) ∙ is)
        | inr other ↦ other.1 ∙ is
      ]

  targets_stay : (IsOrdered states t → s ≡ Ordered) → (xs : List ℕ) → All (IsOrdered states) xs → All (IsOrdered (set states t s)) xs
  targets_stay keep xs all = All-weaker (IsOrdered states) (IsOrdered (set states t s)) (ordered_stays keep) xs all

  visit_stays : (f : Flow) → (IsOrdered states t → s ≡ Ordered) → (v : Visit) → IsVisit f states v → IsVisit f (set states t s) v
  visit_stays f keep v was = record { within = was.within; before = λ k is c among. targets_stay keep (targets_of_call f c) (was.before k is c among) }

  walked_stays : (f : Flow) (walked : List Bool) → (IsOrdered states t → s ≡ Ordered) → AreWalked f states walked → AreWalked f (set states t s) walked
  walked_stays f walked keep was n is = targets_stay keep _ (was n is)

  -- the walk goes on
  come_stays : s ≢ New → (x : ℕ) → state_of states x ≢ New → state_of (set states t s) x ≢ New
  come_stays apart x come =
      elim (state_cases x) [
        | inl here ↦ (λ e. apart (sym here.1 ∙ e))
        | inr other ↦ (λ e. come (sym other.1 ∙ e))
      ]

  pub goes_on : s ≢ New → steps_of s < steps_of (state_of states t) → GoesOn states (set states t s)
  goes_on apart less = let e = sum_by-set steps_of states t s New lt in record { fewer = omega arith; come = come_stays apart }

pub opening : (states : List State) (t : ℕ) → t < length states → state_of states t ≡ New → GoesOn states (set states t Open)
opening states t lt is = goes_on states t Open lt open≢new (let e = ap steps_of is in omega arith)

pub closing : (states : List State) (t : ℕ) (s : State) → s ≢ New → steps_of s ≡ 0 → state_of states t ≡ Open → GoesOn states (set states t s)
closing states t s apart none is = goes_on states t s (open_inside states t is) apart (let e = ap steps_of is in omega arith)

-- ---- the open methods, each of which runs the next

pub next_none : (f : Flow) (t : ℕ) → EachRunsNext f (t ∷ [])
next_none f t i below = absurd (omega arith)

next_front : (f : Flow) (front : List ℕ) (m : ℕ) → EachRunsNext f (front ++ m ∷ []) → EachRunsNext f front
next_front f front m runs i below =
    let long = length-append front (m ∷ []) in
    let here = get_or_append_left front (m ∷ []) 0 i (omega arith) in
    let next = get_or_append_left front (m ∷ []) 0 (i + 1) below in
    let Q : ℕ → Type 0 = λ x. Runs f x (get_or front (i + 1) 0) in
    let S : ℕ → Type 0 = λ y. Runs f (get_or (front ++ m ∷ []) i 0) y in
    subst Q here (subst S next (runs i (omega arith)))

pub next_more : (f : Flow) (front : List ℕ) (m t : ℕ) → EachRunsNext f (front ++ m ∷ []) → Runs f m t → EachRunsNext f ((front ++ m ∷ []) ++ t ∷ [])
next_more f front m t was runs i below =
    let path = front ++ m ∷ [] in
    let long = length-append path (t ∷ []) in
    let path_long = length-append front (m ∷ []) in
    let here = get_or_append_left path (t ∷ []) 0 i (omega arith) in
    let Q : ℕ → Type 0 = λ x. Runs f x (get_or (path ++ t ∷ []) (i + 1) 0) in
    elim (cases_lt (i + 1) (length path)) [
      | inl less ↦
          let next = get_or_append_left path (t ∷ []) 0 (i + 1) less in
          let S : ℕ → Type 0 = λ y. Runs f (get_or path i 0) y in
          subst Q (sym here) (subst S (sym next) (was i less))
      | inr past ↦
          let last : i ≡ length front = omega arith in
          let end : length path ≡ i + 1 = omega arith in
          let is_m : get_or path i 0 ≡ m = get_or_push front m 0 i (sym last) in
          let is_t : get_or (path ++ t ∷ []) (i + 1) 0 ≡ t = get_or_push path t 0 (i + 1) end in
          let S : ℕ → Type 0 = λ y. Runs f m y in
          subst Q (sym (here ∙ is_m)) (subst S (sym is_t) runs)
    ]

-- ---- rings

reached_above : (f : Flow) {m t x : ℕ} → Runs f m t → IsReached f (λ y. y ≡ t) x → IsReached f (λ y. y ≡ m) x
reached_above f {m} {t} runs (given {x} same) = let R : ℕ → Type 0 = λ z. IsReached f (λ y. y ≡ m) z in subst R (sym same) (later (given refl) runs)
reached_above f runs (later r next) = later (reached_above f runs r) next

-- of a target, one of what may run while it does
pub ring_above : (f : Flow) (m t : ℕ) (ms : List ℕ) → Runs f m t → IsRing f t ms → IsRing f m ms
ring_above f m t ms runs is = record {
  some = is.some;
  runs = is.runs;
  around = is.around;
  reached = All-weaker (IsReached f (λ y. y ≡ t)) (IsReached f (λ y. y ≡ m)) (λ x r. reached_above f runs r) ms is.reached;
  distinct = is.distinct;
}

reached_on : (f : Flow) (m : ℕ) (ms : List ℕ) → Runs f m (get_or ms 0 0) → EachRunsNext f ms → (i : ℕ) → i < length ms → IsReached f (λ y. y ≡ m) (get_or ms i 0)
reached_on f m ms first runs zero lt = later (given refl) first
reached_on f m ms first runs (suc i) lt =
    let up : i + 1 ≡ suc i = omega arith in
    let R : ℕ → Type 0 = λ k. Runs f (get_or ms i 0) (get_or ms k 0) in
    later (reached_on f m ms first runs i (omega arith)) (subst R up (runs i (omega arith)))

-- a target that is open begins a ring
pub ring_open : (f : Flow) (front : List ℕ) (m t k : ℕ) → EachRunsNext f (front ++ m ∷ []) → AreDistinct (front ++ m ∷ []) → Runs f m t → slice_get (front ++ m ∷ []) k ≡ Some t → IsRing f m (drop k (front ++ m ∷ []))
ring_open f front m t k next once runs at =
    let path = front ++ m ∷ [] in
    let ms = drop k path in
    let within : k < length path = slice_get_within path k t at in
    let long = length-drop k path in
    let path_long = length-append front (m ∷ []) in
    let item : (i : ℕ) → get_or ms i 0 ≡ get_or path (k + i) 0 = λ i. get_or-drop k path i 0 in
    let end : length front ≡ k + (length ms - 1) = omega arith in
    let is_m : get_or ms (length ms - 1) 0 ≡ m = item (length ms - 1) ∙ get_or_push front m 0 (k + (length ms - 1)) end in
    let start : k + 0 ≡ k = omega arith in
    let is_t : get_or ms 0 0 ≡ t = item 0 ∙ ap (λ (j : ℕ). get_or path j 0) start ∙ get_or_from_slice_get path k t 0 at in
    let first : Runs f m (get_or ms 0 0) = (let S : ℕ → Type 0 = λ y. Runs f m y in subst S (sym is_t) runs) in
    let each : EachRunsNext f ms =
    λ i below.
    let over : k + (i + 1) ≡ k + i + 1 = omega arith in
    let Q : ℕ → Type 0 = λ x. Runs f x (get_or ms (i + 1) 0) in
    let S : ℕ → Type 0 = λ y. Runs f (get_or path (k + i) 0) y in
    let then : get_or ms (i + 1) 0 ≡ get_or path (k + i + 1) 0 = item (i + 1) ∙ ap (λ (j : ℕ). get_or path j 0) over in
    subst Q (sym (item i)) (subst S (sym then) (next (k + i) (omega arith)))
    in
    record {
      some = omega arith;
      runs = each;
      around = let Q : ℕ → Type 0 = λ x. Runs f x (get_or ms 0 0) in subst Q (sym is_m) first;
      reached = All-from_get_or (IsReached f (λ y. y ≡ m)) ms 0 (reached_on f m ms first each);
      distinct = λ i j d less below same. once (k + i) (k + j) d (omega arith) (omega arith) (sym (get_or-drop k path i d) ∙ same ∙ get_or-drop k path j d);
    }

-- ---- the methods of a walk

module _ (f : Flow) where
  -- a method is opened behind one that runs it
  pub opens : (states : List State) (path : List ℕ) (t : ℕ) (order : List ℕ) → AreMethods f states path order → t < length states → state_of states t ≡ New → EachRunsNext f (path ++ t ∷ [])
      → AreMethods f (set states t Open) (path ++ t ∷ []) order
  opens states path t order was lt new' next =
      let not_open : Contains path t → ⊥ = λ c. open≢new (sym ((was.open_are t).1 c) ∙ new') in
      record {
        long = length-set states t Open ∙ was.long;
        open_are = λ x.
            elim (state_cases states t Open lt x) [
              | inl here ↦ (
                λ _. let P : ℕ → Type 0 = λ z. Contains (path ++ t ∷ []) z in subst P (sym here.0) (Contains-push path t),
                λ _. here.1,
              )
              | inr other ↦ (
                λ is. Contains-append_left path (t ∷ []) x ((was.open_are x).0 (sym other.1 ∙ is)),
                λ c. elim (Contains-push_cases path t x c) [
                  | inl there ↦ other.1 ∙ (was.open_are x).1 there
                  | inr same ↦ absurd (other.0 (sym same))
                ],
              )
            ];
        ordered_are = λ x.
            elim (state_cases states t Open lt x) [
              | inl here ↦ (
                λ is. absurd (open≢ordered (sym here.1 ∙ is)),
                λ c. absurd (new≢ordered (sym new' ∙ (sym (ap (state_of states) here.0) ∙ (was.ordered_are x).1 c))),
              )
              | inr other ↦ (
                λ is. (was.ordered_are x).0 (sym other.1 ∙ is),
                λ c. other.1 ∙ (was.ordered_are x).1 c,
              )
            ];
        open_once = distinct_push path t was.open_once not_open;
        ordered_once = was.ordered_once;
        runs = next;
        behind = was.behind;
        rings = λ x is.
            elim (state_cases states t Open lt x) [
              | inl here ↦ absurd (open≢recursive (sym here.1 ∙ is))
              | inr other ↦ was.rings x (sym other.1 ∙ is)
            ];
      }

  module _ (states : List State) (front : List ℕ) (m : ℕ) (order : List ℕ) (was : AreMethods f states (front ++ m ∷ []) order) where
    pub newest_open : state_of states m ≡ Open
    newest_open = (was.open_are m).1 (Contains-push front m)

    newest_inside : m < length states
    newest_inside = open_inside states m newest_open

    -- it isn't open any more
    open_left : (s : State) → s ≢ Open → (x : ℕ) → (state_of (set states m s) x ≡ Open) ↔ Contains front x
    open_left s apart x =
        elim (state_cases states m s newest_inside x) [
          | inl here ↦ (
            λ is. absurd (apart (sym here.1 ∙ is)),
            λ c. let P : ℕ → Type 0 = λ z. Contains front z in absurd (distinct_last front m was.open_once (subst P here.0 c)),
          )
          | inr other ↦ (
            λ is. elim (Contains-push_cases front m x ((was.open_are x).0 (sym other.1 ∙ is))) [
              | inl there ↦ there
              | inr same ↦ absurd (other.0 (sym same))
            ],
            λ c. other.1 ∙ (was.open_are x).1 (Contains-append_left front (m ∷ []) x c),
          )
        ]

    not_ordered : Contains order m → ⊥
    not_ordered c = open≢ordered (sym newest_open ∙ (was.ordered_are m).1 c)

    -- the newest is put into the order, when all that it runs is there
    pub closes : AreTargetsOrdered f states m → AreMethods f (set states m Ordered) front (order ++ m ∷ [])
    closes finished = record {
      long = length-set states m Ordered ∙ was.long;
      open_are = open_left Ordered (λ e. open≢ordered (sym e));
      ordered_are = λ x.
          elim (state_cases states m Ordered newest_inside x) [
            | inl here ↦ (
              λ _. let P : ℕ → Type 0 = λ z. Contains (order ++ m ∷ []) z in subst P (sym here.0) (Contains-push order m),
              λ _. here.1,
            )
            | inr other ↦ (
              λ is. Contains-append_left order (m ∷ []) x ((was.ordered_are x).0 (sym other.1 ∙ is)),
              λ c. elim (Contains-push_cases order m x c) [
                | inl there ↦ other.1 ∙ (was.ordered_are x).1 there
                | inr same ↦ absurd (other.0 (sym same))
              ],
            )
          ];
      open_once = distinct_front front m was.open_once;
      ordered_once = distinct_push order m was.ordered_once not_ordered;
      runs = next_front f front m was.runs;
      behind = λ i x at.
          let within = slice_get_within (order ++ m ∷ []) i x at in
          let long = length-append order (m ∷ []) in
          elim (cases_lt i (length order)) [
            | inl less ↦
                let e : slice_get order i ≡ Some x =
                slice_get-get_or order i x less ∙ ap Some (sym (get_or_append_left order (m ∷ []) x i less) ∙ get_or_from_slice_get (order ++ m ∷ []) i x x at) in
                let before = was.behind i x e in (
                  before.0,
                  λ t runs. let P : List ℕ → Type 0 = λ xs. Contains xs t in subst P (sym (take-append-le i order (m ∷ []) (omega arith))) (before.1 t runs),
                )
            | inr past ↦
                let last : length order ≡ i = omega arith in
                let is_m : m ≡ x = sym (get_or_push order m x i last) ∙ get_or_from_slice_get (order ++ m ∷ []) i x x at in
                let H : ℕ → Type 0 = λ z. IsOfTable f z × ((t : ℕ) → Runs f z t → Contains (take i (order ++ m ∷ [])) t) in
                let here : H m = (
                  finished.code,
                  λ t runs.
                      let target = runs_one f m t finished.code.method finished.code.is runs in
                      let is = All-contains (IsOrdered states) (targets_of_call f target.call) t (finished.targets target.call target.among) target.lists in
                      let P : List ℕ → Type 0 = λ xs. Contains xs t in
                      subst P (sym (take_at order (m ∷ []) i last)) ((was.ordered_are t).0 is),
                ) in
                subst H is_m here
          ];
      rings = λ x is.
          elim (state_cases states m Ordered newest_inside x) [
            | inl here ↦ absurd (ordered≢recursive (sym here.1 ∙ is))
            | inr other ↦ was.rings x (sym other.1 ∙ is)
          ];
    }

    -- or it runs a ring of calls
    pub turns : (ring : List ℕ) → IsRing f m ring → AreMethods f (set states m Recursive) front order
    turns ring found = record {
      long = length-set states m Recursive ∙ was.long;
      open_are = open_left Recursive (λ e. open≢recursive (sym e));
      ordered_are = λ x.
          elim (state_cases states m Recursive newest_inside x) [
            | inl here ↦ (
              λ is. absurd (ordered≢recursive (sym is ∙ here.1)),
              λ c. let P : ℕ → Type 0 = λ z. Contains order z in absurd (not_ordered (subst P here.0 c)),
            )
            | inr other ↦ (
              λ is. (was.ordered_are x).0 (sym other.1 ∙ is),
              λ c. other.1 ∙ (was.ordered_are x).1 c,
            )
          ];
      open_once = distinct_front front m was.open_once;
      ordered_once = was.ordered_once;
      runs = next_front f front m was.runs;
      behind = was.behind;
      rings = λ x is.
          elim (state_cases states m Recursive newest_inside x) [
            | inl here ↦ let R : ℕ → Type 0 = λ z. IsRing f z ring in (ring, subst R (sym here.0) found)
            | inr other ↦ was.rings x (sym other.1 ∙ is)
          ];
    }

    left_cases : (s : State) → s ≢ New → s ≢ Ordered → (s ≡ Open) ⊎ (s ≡ Recursive)
    left_cases New a b = absurd (a refl)
    left_cases Open a b = inl refl
    left_cases Ordered a b = absurd (b refl)
    left_cases Recursive a b = inr refl

    -- one of its targets is open, or runs a ring
    pub ring_found : (t : ℕ) → Runs f m t → state_of states t ≢ New → state_of states t ≢ Ordered → (ring : List ℕ) × IsRing f m ring
    ring_found t runs come left =
        elim (left_cases (state_of states t) come left) [
          | inl open' ↦
              let at = get_contained (front ++ m ∷ []) t ((was.open_are t).0 open') in
              (drop at.0 (front ++ m ∷ []), ring_open f front m t at.0 was.runs was.open_once runs at.1)
          | inr ring ↦ let r = was.rings t ring in (r.0, ring_above f m t r.0 runs r.1)
        ]

-- ---- walks

-- a walk in the words of its parts
pub as_walk : (f : Flow) (w : Walk) (visits : List Visit) (states : List State) (path order : List ℕ) (walked : List Bool) → AreMethods f states path order → All (IsVisit f states) visits → AreWalked f states walked
    → methods_of visits ≡ path → w.states.items ≡ states → w.order.items ≡ order → w.walked.items ≡ walked → IsWalk f w visits
as_walk f w visits states path order walked methods each looked path_is states_are order_is walked_are =
    let A : List State → List ℕ → List ℕ → Type 0 = λ s p d. AreMethods f s p d in
    let V : List State → Type 0 = λ s. All (IsVisit f s) visits in
    let W : List State → List Bool → Type 0 = λ s k. AreWalked f s k in
    record {
      methods =
          let a = subst (λ p. A states p order) (sym path_is) methods in
          let b = subst (λ d. A states (methods_of visits) d) (sym order_is) a in
          subst (λ s. A s (methods_of visits) w.order.items) (sym states_are) b;
      each = subst V (sym states_are) each;
      walked = subst (λ s. W s w.walked.items) (sym states_are) (subst (λ k. W states k) (sym walked_are) looked);
    }

pub path_push : (vs : List Visit) (v : Visit) → methods_of (vs ++ v ∷ []) ≡ methods_of vs ++ v.method ∷ []
path_push vs v = map_push (λ (x : Visit). x.method) vs v

-- a method that was just opened
fresh_visit : (f : Flow) (states : List State) (v : Visit) → v.method < length f.methods → v.call ≡ 0 → IsVisit f states v
fresh_visit f states v within no_call = record {
  within = within;
  before = λ k is c among.
      let T : ℕ → Type 0 = λ n. Contains (take n k.calls) c in
      absurd (let none = (subst T no_call among).1 in omega arith);
}

-- a method is opened
pub opened : (f : Flow) (w x : Walk) (t : ℕ) (first : Visit) → IsWalk f w w.visits.items → t < length w.states.items → state_of w.states.items t ≡ New → EachRunsNext f (methods_of w.visits.items ++ t ∷ []) → first.method ≡ t → first.call ≡ 0
    → x.states.items ≡ set w.states.items t Open → x.order.items ≡ w.order.items → x.walked.items ≡ w.walked.items → x.visits.items ≡ w.visits.items ++ first ∷ [] → IsWalk f x x.visits.items
opened f w x t first was lt new' next is no_call states order walked visits =
    let st = w.states.items in
    let vs = w.visits.items in
    let F : ℕ → Type 0 = λ n. t < n in
    let G : ℕ → Type 0 = λ n. n < length f.methods in
    let keep : IsOrdered st t → Open ≡ Ordered = λ d. absurd (new≢ordered (sym new' ∙ d)) in
    let old : All (IsVisit f (set st t Open)) vs = All-weaker (IsVisit f st) (IsVisit f (set st t Open)) (visit_stays st t Open lt f keep) vs was.each in
    let X : List Visit → Type 0 = λ us. IsWalk f x us in
    subst X (sym visits)
    (as_walk f x (vs ++ first ∷ []) (set st t Open) (methods_of vs ++ t ∷ []) w.order.items w.walked.items
    (opens f st (methods_of vs) t w.order.items was.methods lt new' next)
    (All-push (IsVisit f (set st t Open)) vs first old (fresh_visit f (set st t Open) first (subst G (sym is) (subst F was.methods.long lt)) no_call))
    (walked_stays st t Open lt f w.walked.items keep was.walked)
    (path_push vs first ∙ ap (λ (m : ℕ). methods_of vs ++ m ∷ []) is)
    states order walked)

module _ (f : Flow) (w : Walk) (vs : List Visit) (v : Visit) (was : IsWalk f w (vs ++ v ∷ [])) where
  pub path_of : AreMethods f w.states.items (methods_of vs ++ v.method ∷ []) w.order.items
  path_of = let A : List ℕ → Type 0 = λ p. AreMethods f w.states.items p w.order.items in subst A (path_push vs v) was.methods

  pub open_is : state_of w.states.items v.method ≡ Open
  open_is = newest_open f w.states.items (methods_of vs) v.method w.order.items path_of

  pub newest_visit : IsVisit f w.states.items v
  newest_visit = All-last (IsVisit f w.states.items) vs v was.each

  pub visit_at : (calls : List Call) → HasCalls f v.method calls → (call : ℕ) → AreOrdered f w.states.items (take call calls) → IsVisit f w.states.items (record { method = v.method; call = call })
  visit_at calls has call before = record {
    within = newest_visit.within;
    before = λ k is.
        let same : has.code.method ≡ k = some_same has.code.method k (sym has.code.is ∙ is) in
        let C : List Call → Type 0 = λ ks. AreOrdered f w.states.items (take call ks) in
        subst C (has.are ∙ ap (λ (j : Coded). j.calls) same) before;
  }

  -- the newest visit goes on
  pub moved : (x : Walk) (next : Visit) → next.method ≡ v.method → IsVisit f w.states.items next → AreWalked f w.states.items x.walked.items → x.states.items ≡ w.states.items → x.order.items ≡ w.order.items
      → IsWalk f x (vs ++ next ∷ [])
  moved x next same visit looked states order =
      as_walk f x (vs ++ next ∷ []) w.states.items (methods_of vs ++ v.method ∷ []) w.order.items x.walked.items path_of
      (All-push (IsVisit f w.states.items) vs next (All-front (IsVisit f w.states.items) vs (v ∷ []) was.each) visit) looked
      (path_push vs next ∙ ap (λ (m : ℕ). methods_of vs ++ m ∷ []) same) states order refl

  -- it is closed
  closed_by : (x : Walk) (s : State) (order : List ℕ) → (IsOrdered w.states.items v.method → s ≡ Ordered) → AreMethods f (set w.states.items v.method s) (methods_of vs) order → x.states.items ≡ set w.states.items v.method s → x.order.items ≡ order
      → x.walked.items ≡ w.walked.items → IsWalk f x vs
  closed_by x s order keep methods states is walked =
      let st = w.states.items in
      let m = v.method in
      let lt = open_inside st m open_is in
      as_walk f x vs (set st m s) (methods_of vs) order w.walked.items methods
      (All-weaker (IsVisit f st) (IsVisit f (set st m s)) (visit_stays st m s lt f keep) vs (All-front (IsVisit f st) vs (v ∷ []) was.each))
      (walked_stays st m s lt f w.walked.items keep was.walked)
      refl states is walked

  pub closed : (x : Walk) → AreTargetsOrdered f w.states.items v.method → x.states.items ≡ set w.states.items v.method Ordered → x.order.items ≡ w.order.items ++ v.method ∷ [] → x.walked.items ≡ w.walked.items → IsWalk f x vs
  closed x finished states order walked =
      closed_by x Ordered (w.order.items ++ v.method ∷ []) (λ d. refl) (closes f w.states.items (methods_of vs) v.method w.order.items path_of finished) states order walked

  pub turned : (x : Walk) (t : ℕ) → Runs f v.method t → state_of w.states.items t ≢ New → state_of w.states.items t ≢ Ordered → x.states.items ≡ set w.states.items v.method Recursive → x.order.items ≡ w.order.items
      → x.walked.items ≡ w.walked.items → IsWalk f x vs
  turned x t runs come left states order walked =
      let ring = ring_found f w.states.items (methods_of vs) v.method w.order.items path_of t runs come left in
      closed_by x Recursive w.order.items (λ d. absurd (open≢ordered (sym open_is ∙ d)))
      (turns f w.states.items (methods_of vs) v.method w.order.items path_of ring.0 ring.1) states order walked

-- ---- the beginning

pub all_new : (n y : ℕ) → state_of (replicate n New) y ≡ New
all_new n y = elim (cases_lt y n) [ inl below ↦ get_or-replicate n y New New below | inr past ↦ get_or_past (replicate n New) y New (omega (arith, length-replicate n New)) ]

pub begun : (f : Flow) (w : Walk) → w.states.items ≡ replicate (length f.methods) New → w.visits.items ≡ [] → w.order.items ≡ [] → w.walked.items ≡ [] → IsAtRest f w
begun f w states visits order walked =
    let n = length f.methods in
    let none : (x : ℕ) (s : State) → (New ≡ s → ⊥) → state_of (replicate n New) x ≡ s → ⊥ = λ x s apart is. apart (sym (all_new n x) ∙ is) in
    let methods : AreMethods f (replicate n New) [] [] = record {
      long = length-replicate n New;
      open_are = λ x. (λ is. absurd (none x Open (λ e. open≢new (sym e)) is), λ c. absurd (nil_contains x c));
      ordered_are = λ x. (λ is. absurd (none x Ordered new≢ordered is), λ c. absurd (nil_contains x c));
      open_once = distinct_none;
      ordered_once = distinct_none;
      runs = λ i below. absurd (omega arith);
      behind = λ i m at. absurd (none≢some m at);
      rings = λ x is. absurd (none x Recursive new≢recursive is);
    } in
    let X : List Visit → Type 0 = λ us. IsWalk f w us in
    record {
      walk = subst X (sym visits) (as_walk f w [] (replicate n New) [] [] [] methods (All-nil (IsVisit f (replicate n New))) (λ n is. absurd (false≢true is)) refl states order walked);
      empty = visits;
    }

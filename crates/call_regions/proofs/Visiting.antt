-- Steps of the walk as a whole.
use Rattle.std.proofs.Common.{◌≡◌, ◌≢◌, ℕ, ◌<◌, Bool, List, [], ◌∷◌, ◌++◌, length, set, drop, replicate, All, Contains, Option, Some, None, MatchOption, refl, sym, ap, ◌∙◌, subst, inl, inr, arith}
use Rattle.std.proofs.lemmas.Bool.{cases_eq, cases_lt, false≢true}
use Rattle.std.proofs.lemmas.List.{length-set, length-replicate, get_or-set_same, get_or-set_other, get_or-replicate, get_or_past}
use Rattle.lists.proofs.Lemmas.{some_same, none≢some}
use Rattle.lists.specs.Members.{at_head, cons_cases, nil_contains}
use Rattle.method_flow.specs.declared.flow.Call.{Call}
use Rattle.std.specs.Prelude.{slice_get}
use Rattle.std.proofs.lemmas.List.{map_push}
use Rattle.std.proofs.lemmas.List.Elements.{All-nil, All-push, All-weaker, Contains-push}
use Rattle.method_flow.specs.Flow.{Flow, Coded, targets_of_call}
use Rattle.call_regions.specs.Tables.{HasCalls, Runs}
use Rattle.call_regions.specs.Tables.IsReached.{given}
use Rattle.call_regions.specs.Walking.{state_of, IsDone, steps_left, AreWalked, AreDoneBefore, AreAllDone, IsVisit, IsLeft, IsLeftAt, AreMethodsDone, methods_of, AreMethods, IsWalk, IsRing, IsTableOrder}
use Rattle.call_regions.specs.declared.walk.State.{State}
use Rattle.call_regions.specs.declared.walk.State.TheVariants.{New, Open, Done}
use Rattle.call_regions.specs.declared.walk.Visit.{Visit}
use Rattle.call_regions.specs.declared.walk.Walk.{Walk}
use Rattle.call_regions.proofs.Lists.{from_get, distinct_single, distinct_none}
use Rattle.call_regions.proofs.Exploring.{target_runs}
use Rattle.call_regions.proofs.Stepping.{All-front, All-last, opening, opens, closes, ring, ends, visit_stays, walked_stays, fresh_visit, inside, open≢new, open≢done, done≢new, new_state}

-- a walk in the words of its parts
pub as_walk : (f : Flow) (w : Walk) (visits : List Visit) (root : ℕ) (states : List State) (path done : List ℕ) (walked : List Bool) → AreMethods f root states path done → All (IsVisit f states) visits → AreWalked f states walked
    → methods_of visits ≡ path → w.root ≡ root → w.states.items ≡ states → w.done.items ≡ done → w.walked.items ≡ walked → IsWalk f w visits
as_walk f w visits root states path done walked methods each looked path_is root_is states_are done_is walked_are =
    let A : ℕ → List State → List ℕ → List ℕ → Type 0 = λ r s p d. AreMethods f r s p d in
    let V : List State → Type 0 = λ s. All (IsVisit f s) visits in
    let W : List State → List Bool → Type 0 = λ s k. AreWalked f s k in
    record {
      methods =
          let a = subst (λ p. A root states p done) (sym path_is) methods in
          let b = subst (λ d. A root states (methods_of visits) d) (sym done_is) a in
          let c = subst (λ s. A root s (methods_of visits) w.done.items) (sym states_are) b in
          subst (λ r. A r w.states.items (methods_of visits) w.done.items) (sym root_is) c;
      each = subst V (sym states_are) each;
      walked = subst (λ s. W s w.walked.items) (sym states_are) (subst (λ k. W states k) (sym walked_are) looked);
    }

path_push : (vs : List Visit) (v : Visit) → methods_of (vs ++ v ∷ []) ≡ methods_of vs ++ v.method ∷ []
path_push vs v = map_push (λ (x : Visit). x.method) vs v

-- the target runs
left_runs : (f : Flow) (states : List State) (v : Visit) (t : ℕ) → IsLeftAt f states v t → Runs f v.method t
left_runs f states v t at =
    let left = at.target in
    target_runs f v.method t at.code (record {
      call = left.at;
      among = from_get at.code.method.calls v.call left.at left.call_is;
      lists = from_get (targets_of_call f left.at) v.target t left.target_is;
    })

module _ (f : Flow) (w : Walk) (vs : List Visit) (v : Visit) (was : IsWalk f w (vs ++ v ∷ [])) where
  path_of : AreMethods f w.root w.states.items (methods_of vs ++ v.method ∷ []) w.done.items
  path_of = let A : List ℕ → Type 0 = λ p. AreMethods f w.root w.states.items p w.done.items in subst A (path_push vs v) was.methods

  pub open_is : state_of w.states.items v.method ≡ Open
  open_is = (path_of.open_are v.method).1 (Contains-push (methods_of vs) v.method)

  pub open_inside : v.method < length w.states.items
  open_inside = inside w.states.items v.method (open≢new (state_of w.states.items v.method) open_is)

  -- the newest visit goes on
  pub moved : (x : Walk) (next : Visit) → next.method ≡ v.method → IsVisit f w.states.items next → AreWalked f w.states.items x.walked.items → x.root ≡ w.root → x.states.items ≡ w.states.items → x.done.items ≡ w.done.items
      → IsWalk f x (vs ++ next ∷ [])
  moved x next same visit looked root states done =
      as_walk f x (vs ++ next ∷ []) w.root w.states.items (methods_of vs ++ v.method ∷ []) w.done.items x.walked.items path_of
      (All-push (IsVisit f w.states.items) vs next (All-front (IsVisit f w.states.items) vs (v ∷ []) was.each) visit) looked
      (path_push vs next ∙ ap (λ (m : ℕ). methods_of vs ++ m ∷ []) same) root states done refl

  -- its target is opened
  pub entered : (x : Walk) (t : ℕ) (first : Visit) → IsLeftAt f w.states.items v t → t < length f.methods → state_of w.states.items t ≢ Open → first.method ≡ t → first.call ≡ 0 → first.target ≡ 0
      → x.root ≡ w.root → x.states.items ≡ set w.states.items t Open → x.done.items ≡ w.done.items → x.walked.items ≡ w.walked.items → (visits : List Visit) → visits ≡ (vs ++ v ∷ []) ++ first ∷ []
      → IsWalk f x visits
  entered x t first at known not_open is no_call no_target root states done walked visits visits_are =
      let st = w.states.items in
      let L : ℕ → Type 0 = λ n. t < n in
      let F : ℕ → Type 0 = λ n. n < length f.methods in
      let lt = subst L (sym path_of.long) known in
      let not_done = at.target.left in
      let new' = new_state (state_of st t) not_open not_done in
      let keep : IsDone st t → Open ≡ Done = λ d. absurd (not_done d) in
      let old : All (IsVisit f (set st t Open)) (vs ++ v ∷ []) = All-weaker (IsVisit f st) (IsVisit f (set st t Open)) (visit_stays f st t Open keep) (vs ++ v ∷ []) was.each in
      let X : List Visit → Type 0 = λ us. IsWalk f x us in
      subst X (sym visits_are) (as_walk f x ((vs ++ v ∷ []) ++ first ∷ []) w.root (set st t Open) ((methods_of vs ++ v.method ∷ []) ++ t ∷ []) w.done.items w.walked.items
      (opens f w.root st (methods_of vs) v.method t w.done.items path_of (left_runs f st v t at) lt new')
      (All-push (IsVisit f (set st t Open)) (vs ++ v ∷ []) first old (fresh_visit f (set st t Open) first (subst F (sym is) known) no_call no_target))
      (walked_stays f st t Open w.walked.items keep was.walked)
      (path_push (vs ++ v ∷ []) first ∙ ap (λ (p : List ℕ). p ++ first.method ∷ []) (path_push vs v) ∙ ap (λ (m : ℕ). (methods_of vs ++ v.method ∷ []) ++ m ∷ []) is)
      root states done walked)

  pub enter_fewer : (t : ℕ) → IsLeftAt f w.states.items v t → t < length f.methods → state_of w.states.items t ≢ Open → steps_left (set w.states.items t Open) < steps_left w.states.items
  enter_fewer t at known not_open =
      let L : ℕ → Type 0 = λ n. t < n in
      opening w.states.items t (subst L (sym path_of.long) known) (new_state (state_of w.states.items t) not_open at.target.left)

  pub leave_known : v.method < length f.methods
  leave_known = let L : ℕ → Type 0 = λ n. v.method < n in subst L path_of.long open_inside

  pub newest : IsVisit f w.states.items v
  newest = All-last (IsVisit f w.states.items) vs v was.each

  -- its target is open already
  pub ring_found : (t k : ℕ) (ms : List ℕ) → IsLeftAt f w.states.items v t → slice_get (methods_of (vs ++ v ∷ [])) k ≡ Some t → ms ≡ drop k (methods_of (vs ++ v ∷ [])) → IsRing f w.root ms
  ring_found t k ms at here are =
      let G : List ℕ → Type 0 = λ p. slice_get p k ≡ Some t in
      let R : List ℕ → Type 0 = λ p. IsRing f w.root p in
      subst R (sym (are ∙ ap (drop k) (path_push vs v))) (ring f w.root w.states.items (methods_of vs) v.method t k w.done.items path_of (left_runs f w.states.items v t at) (subst G (path_push vs v) here))

  pub open_listed : (t : ℕ) → state_of w.states.items t ≡ Open → Contains (methods_of (vs ++ v ∷ [])) t
  open_listed t is = (was.methods.open_are t).0 is

  -- it is closed
  pub closed : (x : Walk) → AreMethodsDone f w.states.items v.method → x.root ≡ w.root → x.states.items ≡ set w.states.items v.method Done → x.done.items ≡ w.done.items ++ v.method ∷ [] → x.walked.items ≡ w.walked.items
      → IsWalk f x vs
  closed x finished root states done walked =
      let st = w.states.items in
      let m = v.method in
      let keep : IsDone st m → Done ≡ Done = λ d. refl in
      as_walk f x vs w.root (set st m Done) (methods_of vs) (w.done.items ++ m ∷ []) w.walked.items
      (closes f w.root st (methods_of vs) m w.done.items path_of finished)
      (All-weaker (IsVisit f st) (IsVisit f (set st m Done)) (visit_stays f st m Done keep) vs (All-front (IsVisit f st) vs (v ∷ []) was.each))
      (walked_stays f st m Done w.walked.items keep was.walked)
      refl root states done walked

-- the end of a walk
pub walk_ends : (f : Flow) (w : Walk) → IsWalk f w [] → IsTableOrder f w.root w.done.items
walk_ends f w was = ends f w.root w.states.items w.done.items was.methods

-- ---- what was found of the newest visit

pub match_some : {T : Type 0} (o : Option T) (x : T) (A : Type 0) (B : T → Type 0) → o ≡ Some x → MatchOption o A B → B x
match_some {T} o x A B is h = let P : Option T → Type 0 = λ r. MatchOption r A B in subst P is h

pub match_none : {T : Type 0} (o : Option T) (A : Type 0) (B : T → Type 0) → o ≡ None → MatchOption o A B → A
match_none {T} o A B is h = let P : Option T → Type 0 = λ r. MatchOption r A B in subst P is h

module _ (f : Flow) (states : List State) (m : ℕ) (calls : List Call) (has : HasCalls f m calls) where
  pub next_visit : (next : Visit) → next.method ≡ m → m < length f.methods → AreDoneBefore f states calls next.call next.target → IsVisit f states next
  next_visit next same known done = record {
    within = let L : ℕ → Type 0 = λ n. n < length f.methods in subst L (sym same) known;
    before = λ k is.
        let G : ℕ → Type 0 = λ n. slice_get f.methods n ≡ Some k in
        let one : has.code.method ≡ k = some_same has.code.method k (sym has.code.is ∙ subst G same is) in
        let D : List Call → Type 0 = λ ks. AreDoneBefore f states ks next.call next.target in
        subst D (has.are ∙ ap (λ (j : Coded). j.calls) one) done;
  }

  pub next_left_at : (next : Visit) (t : ℕ) → next.method ≡ m → IsLeft f states calls next.call next.target t → IsLeftAt f states next t
  next_left_at next t same left =
      let H : ℕ → Type 0 = λ n. slice_get f.methods n ≡ Some has.code.method in
      let D : List Call → Type 0 = λ ks. IsLeft f states ks next.call next.target t in
      record { code = record { method = has.code.method; is = subst H (sym same) has.code.is; coded = has.code.coded }; target = subst D has.are left }

  pub all_done : AreAllDone f states calls → AreMethodsDone f states m
  all_done done = let D : List Call → Type 0 = λ ks. AreAllDone f states ks in record { code = has.code; targets = subst D has.are done }

-- ---- the beginning

-- all methods are new but one
pub started : (f : Flow) (root : ℕ) (x : Walk) (old : List State) (visits : List Visit) (first : Visit) → root < length f.methods → old ≡ replicate (length f.methods) New
    → x.root ≡ root → x.states.items ≡ set old root Open → x.done.items ≡ [] → x.walked.items ≡ [] → first.method ≡ root → first.call ≡ 0 → first.target ≡ 0 → visits ≡ first ∷ [] → IsWalk f x visits
started f root x old visits first known are root_is states_are done_is walked_are method_is no_call no_target visits_are =
    let states = set old root Open in
    let long : length old ≡ length f.methods = ap length are ∙ length-replicate (length f.methods) New in
    let lt : root < length old = omega arith in
    let opened : state_of states root ≡ Open = get_or-set_same old root Open New lt in
    let other : (y : ℕ) → y ≢ root → state_of states y ≡ New =
    λ y apart. get_or-set_other old root y Open New apart ∙ ap (λ (s : List State). state_of s y) are ∙ all_new (length f.methods) y in
    let single : (y : ℕ) → Contains (root ∷ []) y → y ≡ root = λ y c. elim (cons_cases root y [] c) [ inl same ↦ sym same | inr none ↦ absurd (nil_contains y none) ] in
    let methods : AreMethods f root states (root ∷ []) [] = record {
      long = length-set old root Open ∙ long;
      open_are = λ y. (
        λ is. elim (cases_eq y root) [
          | inl same ↦ let P : ℕ → Type 0 = λ z. Contains (root ∷ []) z in subst P (sym same) (at_head root [])
          | inr apart ↦ absurd (open≢new (state_of states y) is (other y apart))
        ],
        λ c. ap (state_of states) (single y c) ∙ opened,
      );
      done_are = λ y. (
        λ is. elim (cases_eq y root) [
          | inl same ↦ absurd (open≢done (state_of states y) (ap (state_of states) same ∙ opened) is)
          | inr apart ↦ absurd (done≢new (state_of states y) is (other y apart))
        ],
        λ c. absurd (nil_contains y c),
      );
      open_once = distinct_single root;
      done_once = distinct_none;
      runs = λ i below. absurd (omega arith);
      behind = λ i m at. absurd (none≢some m at);
      reached = λ y come. elim (cases_eq y root) [ inl same ↦ given same | inr apart ↦ absurd (come (other y apart)) ];
      from = open≢new (state_of states root) opened;
    } in
    let X : List Visit → Type 0 = λ us. IsWalk f x us in
    let F : ℕ → Type 0 = λ n. n < length f.methods in
    subst X (sym visits_are)
    (as_walk f x (first ∷ []) root states (root ∷ []) [] [] methods
    (All-push (IsVisit f states) [] first (All-nil (IsVisit f states)) (fresh_visit f states first (subst F (sym method_is) known) no_call no_target))
    (λ n is. absurd (false≢true is))
    (ap (λ (m : ℕ). m ∷ []) method_is) root_is states_are done_is walked_are)
  where
    all_new : (n y : ℕ) → state_of (replicate n New) y ≡ New
    all_new n y = elim (cases_lt y n) [ inl below ↦ get_or-replicate n y New New below | inr past ↦ get_or_past (replicate n New) y New (omega (arith, length-replicate n New)) ]

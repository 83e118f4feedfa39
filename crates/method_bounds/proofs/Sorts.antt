-- The methods of an order that have no cause: each stands behind all that it may call, and only a size stands against a bound of it.
use Rattle.std.proofs.Common.{◌≡◌, ◌≢◌, ◌⊎◌, Bool, true, false, not, is_some, ℕ, ◌<◌, List, [], ◌∷◌, ◌++◌, length, take_all, get_or, Contains, Option, Some, None, refl, sym, ap, ◌∙◌, subst, inl, inr, arith}
use Rattle.std.specs.Prelude.{slice_get, slice_index_or}
use Rattle.std.proofs.lemmas.Bool.{true≢false}
use Rattle.std.proofs.lemmas.List.{take-append-le}
use Rattle.std.proofs.lemmas.List.Elements.{All-weaker, All-contains_itself, Contains-push, Contains-push_cases, Contains-append_left}
use Rattle.std.proofs.lemmas.Option.{slice_get_within, slice_get-get_or, get_or_from_slice_get}
use Rattle.lists.proofs.Lemmas.{none≢some}
use Rattle.lists.specs.Members.{nil_contains}
use Rattle.method_cache.specs.Regions.Region.{AreDistinct}
use Rattle.bound_texts.specs.Loops.Bounds.{LoopBound}
use Rattle.bytecode_model.specs.Program.{Program}
use Rattle.method_flow.specs.Flow.{Flow, IsFlowOf}
use Rattle.method_flow.specs.Keeping.{BoundOf}
use Rattle.method_flow.specs.Recursion.{MayCall}
use Rattle.method_flow.specs.Regions.{IsWithin}
use Rattle.method_flow.specs.Regions.IsWithin.{itself}
use Rattle.node_costs.specs.Costs.{bounds_of}
use Rattle.answer_lines.specs.declared.bound.BoundCause.{BoundCause}
use Rattle.answer_lines.specs.declared.bound.BoundCause.TheVariants as causes
use Rattle.bound_rules.specs.Bounding.{HasNoRecursion, AreReducible, HaveLines}
use Rattle.bound_finder.specs.Ready.{AreBehindCalls}
use Rattle.bound_finder.proofs.Growing.{front_behind, last_behind}
use Rattle.bound_finder.proofs.Pushed.{push_cases}
use Rattle.call_regions.specs.Laws.{RunsAreCalls}
use Rattle.call_regions.specs.Regions.{AreKnown}
use Rattle.method_bounds.specs.declared.causes.Leasts.{Leasts}
use Rattle.method_bounds.specs.declared.loops.Loops.{Loops}
use Rattle.method_bounds.specs.declared.walk.State.{State}
use Rattle.method_bounds.specs.declared.walk.State.TheVariants.{New, Open, Ordered, Recursive}
use Rattle.method_bounds.specs.Leasts.{leasts_at, AreLeastsOf}
use Rattle.method_bounds.specs.Loops.{AreLoopsOf, IsLoopCauseIn}
use Rattle.method_bounds.specs.Sorting.{IsCauseOf, AreCauses, ArePicked, AreBoundable, IsSortedOut, AreSorted}
use Rattle.method_bounds.specs.Sorting.ArePicked.{none, free, caused}
use Rattle.method_bounds.specs.Walking.{state_of, IsSettled}
use Rattle.method_bounds.proofs.Causing.{all_reducible, all_lines, cause_is, no_cause_below}
use Rattle.method_bounds.proofs.Leasts.{may_within}
use Rattle.method_bounds.proofs.Recursions.{stands_before, has_all, no_recursion, ring_is}
use Rattle.method_bounds.proofs.Tabled.{distinct_front, distinct_last, distinct_push, get_contained}
use Rattle.method_bounds.proofs.Walks.{ordered≢recursive}

-- ---- whether there is a cause

pub none_by : (o : Option BoundCause) (b : Bool) → is_some o ≡ not b → b ≡ true → o ≡ None
none_by None b same is = refl
none_by (Some x) b same is = absurd (true≢false (same ∙ ap not is))

pub some_by : (o : Option BoundCause) (b : Bool) → is_some o ≡ not b → b ≡ false → o ≢ None
some_by o b same unset is = absurd (true≢false (sym (same ∙ ap not unset) ∙ ap is_some is))

-- ---- those that are picked

abbrev cause_at : List (Option BoundCause) → ℕ → Option BoundCause
cause_at found m = slice_index_or found m None

module _ (found : List (Option BoundCause)) where
  pub picked_has : (order picked : List ℕ) → ArePicked found order picked → (x : ℕ) → Contains order x → cause_at found x ≡ None → Contains picked x
  picked_has order picked none x has is = absurd (nil_contains x has)
  picked_has order picked (free {order = front} {picked = before} m p fits) x has is =
      elim (Contains-push_cases front m x has) [
        | inl there ↦ Contains-append_left before (m ∷ []) x (picked_has front before p x there is)
        | inr same ↦ (let C : ℕ → Type 0 = λ y. Contains (before ++ m ∷ []) y in subst C same (Contains-push before m))
      ]
  picked_has order picked (caused {order = front} {picked = before} m p some) x has is =
      elim (Contains-push_cases front m x has) [
        | inl there ↦ picked_has front before p x there is
        | inr same ↦ absurd (some (ap (cause_at found) same ∙ is))
      ]

  pub picked_from : (order picked : List ℕ) → ArePicked found order picked → (x : ℕ) → Contains picked x → Contains order x
  picked_from order picked none x has = has
  picked_from order picked (free {order = front} {picked = before} m p fits) x has =
      elim (Contains-push_cases before m x has) [
        | inl there ↦ Contains-append_left front (m ∷ []) x (picked_from front before p x there)
        | inr same ↦ (let C : ℕ → Type 0 = λ y. Contains (front ++ m ∷ []) y in subst C same (Contains-push front m))
      ]
  picked_from order picked (caused {order = front} {picked = before} m p some) x has = Contains-append_left front (m ∷ []) x (picked_from front before p x has)

  pub picked_once : (order picked : List ℕ) → ArePicked found order picked → AreDistinct order → AreDistinct picked
  picked_once order picked none once = once
  picked_once order picked (free {order = front} {picked = before} m p fits) once =
      distinct_push before m (picked_once front before p (distinct_front front m once)) (λ has. distinct_last front m once (picked_from front before p m has))
  picked_once order picked (caused {order = front} {picked = before} m p some) once = picked_once front before p (distinct_front front m once)

-- ---- what they may call stands before them

behind_more : (P : Program) (ms : List ℕ) (m : ℕ) → AreBehindCalls P ms → ((x : ℕ) → MayCall P m x → Contains ms x) → AreBehindCalls P (ms ++ m ∷ [])
behind_more P ms m behind called i y x is call =
    let C : List ℕ → Type 0 = λ xs. Contains xs x in
    elim (push_cases ms m y i is) [
      | inl old ↦
          let below = slice_get_within ms i y old in
          subst C (sym (take-append-le i ms (m ∷ []) (omega arith))) (behind i y x old call)
      | inr last ↦
          let at = last.0 in
          let M : ℕ → Type 0 = λ k. MayCall P k x in
          subst C (sym (take-append-le i ms (m ∷ []) (omega arith) ∙ take_all i ms (omega arith))) (called x (subst M (sym last.1) call))
    ]

-- of a method without a cause, nothing but a size stands against a bound, and so of all that it may call
record IsFree (P : Program) (bound_of : BoundOf) (found : List (Option BoundCause)) (m : ℕ) : Type 0 where
  reducible : AreReducible P m
  lines : HaveLines P bound_of m
  calls : HasNoRecursion P m
  targets : (t : ℕ) → MayCall P m t → cause_at found t ≡ None

module _ (P : Program) (bound_of : BoundOf) where
  boundable_more : (ms : List ℕ) (m : ℕ) → AreBoundable P bound_of ms → ((x : ℕ) → MayCall P m x → Contains ms x) → AreReducible P m → HaveLines P bound_of m → HasNoRecursion P m → AreBoundable P bound_of (ms ++ m ∷ [])
  boundable_more ms m h called reducible lines calls = record {
    ready = record {
      behind = behind_more P ms m h.ready.behind called;
      reducible = λ x has. elim (Contains-push_cases ms m x has) [ inl before ↦ h.ready.reducible x before | inr same ↦ (let R : ℕ → Type 0 = λ y. AreReducible P y in subst R same reducible) ];
      lines = λ x has. elim (Contains-push_cases ms m x has) [ inl before ↦ h.ready.lines x before | inr same ↦ (let L : ℕ → Type 0 = λ y. HaveLines P bound_of y in subst L same lines) ];
    };
    calls = λ x has. elim (Contains-push_cases ms m x has) [ inl before ↦ h.calls x before | inr same ↦ (let N : ℕ → Type 0 = λ y. HasNoRecursion P y in subst N same calls) ];
  }

  pub none_boundable : AreBoundable P bound_of []
  none_boundable = record {
    ready = record {
      behind = λ i m x at. absurd (none≢some m at);
      reducible = λ m has. absurd (nil_contains m has);
      lines = λ m has. absurd (nil_contains m has);
    };
    calls = λ m has. absurd (nil_contains m has);
  }

  picked_boundable : (found : List (Option BoundCause)) (order picked : List ℕ) → ArePicked found order picked → AreBehindCalls P order → ((m : ℕ) → Contains order m → cause_at found m ≡ None → IsFree P bound_of found m)
      → AreBoundable P bound_of picked
  picked_boundable found order picked none behind each = none_boundable
  picked_boundable found order picked (free {order = front} {picked = before} m p fits) behind each =
      let here = each m (Contains-push front m) fits in
      boundable_more before m
      (picked_boundable found front before p (front_behind P front m behind) (λ x has. each x (Contains-append_left front (m ∷ []) x has)))
      (λ x call. picked_has found front before p x (last_behind P front m behind x call) (here.targets x call)) here.reducible here.lines here.calls
  picked_boundable found order picked (caused {order = front} {picked = before} m p some) behind each =
      picked_boundable found front before p (front_behind P front m behind) (λ x has. each x (Contains-append_left front (m ∷ []) x has))

-- ---- all methods

module _ (f : Flow) (loops : List Loops) (states : List State) (order : List ℕ) (settled : IsSettled f states order) (long : length loops ≡ length f.methods) where
  -- a method of the order is one of the table
  known_of : (m : ℕ) → Contains order m → m < length f.methods
  known_of m has =
      let at = get_contained order m has in
      let code = (settled.methods.behind at.0 m at.1).0 in
      slice_get_within f.methods m code.method code.is

  pub in_causes : (found : List (Option BoundCause)) → length found ≡ length states → (m : ℕ) → Contains order m → m < length found
  in_causes found same m has = let below = known_of m has in let n = settled.methods.long in omega arith

  pub picked_known : (found : List (Option BoundCause)) (picked : List ℕ) → ArePicked found order picked → AreKnown f picked
  picked_known found picked p =
      let K : ℕ → Type 0 = λ m. m < length f.methods in (
        All-weaker (Contains picked) K (λ m has. known_of m (picked_from found order picked p m has)) picked (All-contains_itself picked),
        picked_once found order picked p settled.methods.ordered_once,
      )

  module _ (calls : RunsAreCalls) (bounds : List LoopBound) (of_table : AreLoopsOf f bounds loops) (leasts : List Leasts) (found : List (Option BoundCause)) (causes_are : AreCauses loops states leasts found) (P : Program) (flow : IsFlowOf P f)
      (are : (m : ℕ) → Contains order m → AreLeastsOf loops P leasts m) where
    abbrev bound_of : BoundOf
    bound_of = bounds_of f bounds

    within_known : (m : ℕ) → Contains order m → (x : ℕ) → IsWithin P m x → x < length loops
    within_known m has x within = let below = known_of x (has_all P f flow calls order settled.methods.behind m x has within) in omega arith

    cause_there : (m : ℕ) → Contains order m → slice_get found m ≡ Some (cause_at found m)
    cause_there m has = slice_get-get_or found m None (in_causes found causes_are.long m has)

    loop_cause_of : (m : ℕ) (cause : Option BoundCause) → Contains order m → slice_get found m ≡ Some cause → IsLoopCauseIn loops (IsWithin P m) cause
    loop_cause_of m cause has at = (causes_are.each m cause at).loop (λ is. ordered≢recursive (sym ((settled.methods.ordered_are m).1 has) ∙ is)) P m (are m has)

    is_free : (m : ℕ) → Contains order m → cause_at found m ≡ None → IsFree P bound_of found m
    is_free m has fits =
        let C : Option BoundCause → Type 0 = λ o. IsLoopCauseIn loops (IsWithin P m) o in
        let here = subst C fits (loop_cause_of m (cause_at found m) has (cause_there m has)) in
        let known = within_known m has in
        record {
          reducible = all_reducible f bounds loops of_table P flow m known here.0;
          lines = all_lines f bounds loops of_table P flow m known here;
          calls = no_recursion P f flow calls order settled.methods.behind m has;
          targets = λ t call.
              let there = has_all P f flow calls order settled.methods.behind m t has (may_within P call itself) in
              no_cause_below loops (IsWithin P m) (IsWithin P t) (λ x within. may_within P call within) here (cause_at found t) (loop_cause_of t (cause_at found t) there (cause_there t there));
        }

    pub picked_ready : (picked : List ℕ) → ArePicked found order picked → AreBoundable P bound_of picked
    picked_ready picked p = picked_boundable P bound_of found order picked p (stands_before P f flow calls order settled.methods.behind) is_free

    sorted_in_order : (picked : List ℕ) → ArePicked found order picked → (m : ℕ) (cause : Option BoundCause) → Contains order m → slice_get found m ≡ Some cause → IsSortedOut P bound_of m cause picked
    sorted_in_order picked p m None has at = picked_has found order picked p m has (get_or_from_slice_get found m None None at)
    sorted_in_order picked p m (Some cause) has at = λ t.
        cause_is f bounds loops of_table P flow m (within_known m has) (no_recursion P f flow calls order settled.methods.behind m has) t cause (loop_cause_of m (Some cause) has at)

    sorted_ring : (picked : List ℕ) (m : ℕ) (cause : Option BoundCause) → state_of states m ≡ Recursive → cause ≡ Some causes.Recursion → IsSortedOut P bound_of m cause picked
    sorted_ring picked m cause is same =
        let S : Option BoundCause → Type 0 = λ o. IsSortedOut P bound_of m o picked in
        let ring = settled.methods.rings m is in
        subst S (sym same) (λ t. (ring.0, ring_is P f flow calls m ring.0 ring.1))

    state_is : (s : State) → s ≢ New → s ≢ Open → (s ≡ Ordered) ⊎ (s ≡ Recursive)
    state_is New a b = absurd (a refl)
    state_is Open a b = absurd (b refl)
    state_is Ordered a b = inl refl
    state_is Recursive a b = inr refl

    pub sorted_at : (picked : List ℕ) → ArePicked found order picked → (m : ℕ) (cause : Option BoundCause) → slice_get found m ≡ Some cause → IsSortedOut P bound_of m cause picked
    sorted_at picked p m cause at =
        let below = slice_get_within found m cause at in
        let n = causes_are.long in
        let n' = settled.methods.long in
        elim (state_is (state_of states m) (settled.come m (omega arith)) (λ is. nil_contains m ((settled.methods.open_are m).0 is))) [
          | inl is ↦ sorted_in_order picked p m cause ((settled.methods.ordered_are m).0 is) at
          | inr is ↦ sorted_ring picked m cause is ((causes_are.each m cause at).ring is)
        ]

-- What is selected for a class, by what is selected for its superclass; and the table of it.
use Rattle.std.proofs.Common.{◌≡◌, ℕ, zero, suc, ◌-◌, ◌<◌, ◌≤◌, length, get_or, set, replicate, arith, Bool, true, false, ◌||◌, List, [], ◌∷◌, Option, Some, None, inl, inr, refl, sym, ap, ap₂, ◌∙◌, subst, append-nil}
use Rattle.std.specs.Prelude.{is_some, find}
use Rattle.std.specs.Option.{option_map_or, option_to_list}
use Rattle.std.specs.List.{list_any, filter_map, flat_map, cons_option}
use Rattle.std.proofs.lemmas.Bool.{cases_eq, false≢true, cond-true, cond-false}
use Rattle.std.proofs.lemmas.List.{get_or-set_same, get_or-set_other, length-set}
use Rattle.class_pool.specs.declared.class.ClassFile.{ClassFile}
use Rattle.class_lookup.specs.Hierarchy.{superclass, superclasses, IsAcyclic}
use Rattle.class_lookup.specs.Lookup.{Place, same_place}
use Rattle.class_lookup.specs.Selection.{overrides_directly, overriding, head, is_public_instance}
use Rattle.class_hierarchy.specs.declared.receivers.Selected.{Selected}
use Rattle.class_hierarchy.specs.Members.{declared_as}
use Rattle.class_hierarchy.specs.Selecting.{is_open, is_joining, selected_of, selected_at, selected_above, AreKnown}
use Rattle.class_hierarchy.proofs.Directly.{upward_step}
use Rattle.class_hierarchy.proofs.Filled.{superclass_below}
use Rattle.class_hierarchy.proofs.Reaching.{AreReached, reached_none, reached_more, joined}

-- ---- one more method

or_swap : (a b : Bool) → (a || b) ≡ (b || a)
or_swap true true = refl
or_swap true false = refl
or_swap false true = refl
or_swap false false = refl

passed : (cs : List ClassFile) (a x : Place) (ms : List Place) (found : Option Place) (free : Bool) → AreReached cs a ms found free → is_joining cs a (is_some found) free x ≡ false → overriding cs a (x ∷ ms) ≡ overriding cs a ms
passed cs a x ms found free r h =
    cond-false (same_place x a || list_any (overrides_directly cs x) (overriding cs a ms)) (x ∷ overriding cs a ms) (overriding cs a ms) (ap (λ b. same_place x a || b) (r.over x) ∙ h)

reached_again : (cs : List ClassFile) (a x : Place) (ms : List Place) (found : Option Place) (free : Bool) → AreReached cs a ms found free → overriding cs a (x ∷ ms) ≡ overriding cs a ms → AreReached cs a (x ∷ ms) found free
reached_again cs a x ms found free r e = record {
  first = r.first ∙ sym (ap head e);
  over = λ m. ap (list_any (overrides_directly cs m)) e ∙ r.over m;
  closed = r.closed;
}

abbrev Reached : List ClassFile → Place → List Place → List Place → Type 0
Reached cs a ms over = AreReached cs a ms (head over) (list_any (is_open cs) over)

reached_case : (cs : List ClassFile) (a x : Place) (ms : List Place) (b : Bool) → is_joining cs a (is_some (head (overriding cs a ms))) (list_any (is_open cs) (overriding cs a ms)) x ≡ b → Reached cs a ms (overriding cs a ms) → Reached cs a (x ∷ ms) (overriding cs a (x ∷ ms))
reached_case cs a x ms true h r =
    let O = overriding cs a ms in
    let free = list_any (is_open cs) O in
    subst (Reached cs a (x ∷ ms)) (sym (joined cs a x ms (head O) free r h))
    (reached_more cs a x ms (head O) free (is_open cs x || free) r h (or_swap (is_open cs x) free))
reached_case cs a x ms false h r =
    let O = overriding cs a ms in
    let e = passed cs a x ms (head O) (list_any (is_open cs) O) r h in
    subst (Reached cs a (x ∷ ms)) (sym e) (reached_again cs a x ms (head O) (list_any (is_open cs) O) r e)

pub reached_of : (cs : List ClassFile) (a : Place) (ms : List Place) → Reached cs a ms (overriding cs a ms)
reached_of cs a [] = reached_none cs a [] refl
reached_of cs a (x ∷ ms) = reached_case cs a x ms (is_joining cs a (is_some (head (overriding cs a ms))) (list_any (is_open cs) (overriding cs a ms)) x) refl (reached_of cs a ms)

pub with_public : (cs : List ClassFile) (i : Bool) (a x : Place) (ms : List Place) → i ≡ true → is_public_instance cs x ≡ true → record { place = Some x; free = false } ≡ selected_of cs i a (x ∷ ms)
unfolding selected_of
with_public cs true a x ms e j = ap (λ (o : Option Place). record { place = o; free = false }) (sym (cond-true (is_public_instance cs x) (Some x) (find (is_public_instance cs) ms) j))
with_public cs false a x ms e j = absurd (false≢true e)

pub without_public : (cs : List ClassFile) (i : Bool) (a x : Place) (ms : List Place) (s : Selected) → i ≡ true → s ≡ selected_of cs i a ms → is_public_instance cs x ≡ false → s ≡ selected_of cs i a (x ∷ ms)
unfolding selected_of
without_public cs true a x ms s e h j = h ∙ ap (λ (o : Option Place). record { place = o; free = false }) (sym (cond-false (is_public_instance cs x) (Some x) (find (is_public_instance cs) ms) j))
without_public cs false a x ms s e h j = absurd (false≢true e)

pub with_joining : (cs : List ClassFile) (i : Bool) (a x : Place) (ms : List Place) (s : Selected) (free : Bool) → i ≡ false → s ≡ selected_of cs i a ms → is_joining cs a (is_some s.place) s.free x ≡ true → free ≡ (s.free || is_open cs x)
    → record { place = Some x; free = free } ≡ selected_of cs i a (x ∷ ms)
unfolding selected_of
with_joining cs true a x ms s free e h j f = absurd (false≢true (sym e))
with_joining cs false a x ms s free e h j f =
    let O = overriding cs a ms in
    let any = list_any (is_open cs) O in
    let more = joined cs a x ms (head O) any (reached_of cs a ms) (ap (λ (k : Selected). is_joining cs a (is_some k.place) k.free x) (sym h) ∙ j) in
    ap₂ (λ (o : Option Place) (b : Bool). record { place = o; free = b }) (sym (ap head more))
    (f ∙ (ap (λ (k : Selected). k.free || is_open cs x) h ∙ (or_swap any (is_open cs x) ∙ sym (ap (list_any (is_open cs)) more))))

pub without_joining : (cs : List ClassFile) (i : Bool) (a x : Place) (ms : List Place) (s : Selected) → i ≡ false → s ≡ selected_of cs i a ms → is_joining cs a (is_some s.place) s.free x ≡ false → s ≡ selected_of cs i a (x ∷ ms)
unfolding selected_of
without_joining cs true a x ms s e h j = absurd (false≢true (sym e))
without_joining cs false a x ms s e h j =
    let O = overriding cs a ms in
    let same = passed cs a x ms (head O) (list_any (is_open cs) O) (reached_of cs a ms) (ap (λ (k : Selected). is_joining cs a (is_some k.place) k.free x) (sym h) ∙ j) in
    h ∙ ap (λ (ks : List Place). record { place = head ks; free = list_any (is_open cs) ks }) (sym same)

pub of_none : (cs : List ClassFile) (i : Bool) (a : Place) → record { place = None; free = false } ≡ selected_of cs i a []
unfolding selected_of
of_none cs true a = refl
of_none cs false a = refl

-- ---- from a class upwards

chain_none : (cs : List ClassFile) → IsAcyclic cs → (c : ℕ) → superclass cs c ≡ None → superclasses cs c ≡ c ∷ []
chain_none cs ac c h = upward_step cs ac c ∙ ap (λ o. c ∷ flat_map (superclasses cs) (option_to_list o)) h

chain_some : (cs : List ClassFile) → IsAcyclic cs → (c d : ℕ) → superclass cs c ≡ Some d → superclasses cs c ≡ c ∷ superclasses cs d
chain_some cs ac c d h =
    upward_step cs ac c ∙ (ap (λ o. c ∷ flat_map (superclasses cs) (option_to_list o)) h ∙ ap (λ xs. c ∷ xs) (append-nil (superclasses cs d)))

abbrev pub above_list : List ClassFile → (ℕ → Option Place) → Option ℕ → List Place
above_list cs find o = option_map_or (λ d. filter_map find (superclasses cs d)) o []

up_case : (cs : List ClassFile) → IsAcyclic cs → (find : ℕ → Option Place) (c : ℕ) (o : Option ℕ) → superclass cs c ≡ o → filter_map find (superclasses cs c) ≡ cons_option (find c) (above_list cs find o)
up_case cs ac find c None h = ap (filter_map find) (chain_none cs ac c h)
up_case cs ac find c (Some d) h = ap (filter_map find) (chain_some cs ac c d h)

pub up_step : (cs : List ClassFile) → IsAcyclic cs → (find : ℕ → Option Place) (c : ℕ) → filter_map find (superclasses cs c) ≡ cons_option (find c) (above_list cs find (superclass cs c))
up_step cs ac find c = up_case cs ac find c (superclass cs c) refl

-- by what is selected for the superclass
pub at_declared : (cs : List ClassFile) → IsAcyclic cs → (i : Bool) (a : Place) (c : ℕ) (x : Place) (above s : Selected) → Some x ≡ declared_as cs a c → above ≡ selected_above cs i a c
    → ((ms : List Place) → above ≡ selected_of cs i a ms → s ≡ selected_of cs i a (x ∷ ms)) → s ≡ selected_at cs i a c
unfolding selected_at selected_above
at_declared cs ac i a c x above s h e more =
    more (above_list cs (declared_as cs a) (superclass cs c)) e
    ∙ ap (selected_of cs i a) (ap (λ o. cons_option o (above_list cs (declared_as cs a) (superclass cs c))) h ∙ sym (up_step cs ac (declared_as cs a) c))

pub at_other : (cs : List ClassFile) → IsAcyclic cs → (i : Bool) (a : Place) (c : ℕ) (above : Selected) → None ≡ declared_as cs a c → above ≡ selected_above cs i a c
    → above ≡ selected_at cs i a c
unfolding selected_at selected_above
at_other cs ac i a c above h e =
    e ∙ ap (selected_of cs i a) (ap (λ o. cons_option o (above_list cs (declared_as cs a) (superclass cs c))) h ∙ sym (up_step cs ac (declared_as cs a) c))

-- what is selected for the superclass
pub above_some : (cs : List ClassFile) (i : Bool) (a : Place) (c d : ℕ) (s : Selected) → Some d ≡ superclass cs c → s ≡ selected_at cs i a d → s ≡ selected_above cs i a c
unfolding selected_at selected_above
above_some cs i a c d s h e = e ∙ ap (λ k. selected_of cs i a (above_list cs (declared_as cs a) k)) h

pub above_none : (cs : List ClassFile) (i : Bool) (a : Place) (c : ℕ) → None ≡ superclass cs c → record { place = None; free = false } ≡ selected_above cs i a c
unfolding selected_above
above_none cs i a c h = of_none cs i a ∙ ap (λ k. selected_of cs i a (above_list cs (declared_as cs a) k)) h

-- ---- along the list of a class and its superclasses

-- what stands at a place of the list has the next one as its superclass
abbrev NextIs : List ClassFile → (i d : ℕ) → List ℕ → Type 0
NextIs cs i d xs = i < length xs → superclass cs (get_or xs i 0) ≡ Some d → (suc i < length xs) × (get_or xs (suc i) 0 ≡ d)

first_next : (cs : List ClassFile) → IsAcyclic cs → (c d : ℕ) → superclass cs c ≡ Some d → (suc zero < length (superclasses cs c)) × (get_or (superclasses cs c) (suc zero) 0 ≡ d)
first_next cs ac c d h =
    let list = chain_some cs ac c d h ∙ ap (λ xs. c ∷ xs) (upward_step cs ac d) in
    (subst (λ (xs : List ℕ). suc zero < length xs) (sym list) (omega arith), ap (λ xs. get_or xs (suc zero) 0) list)

next_case : (cs : List ClassFile) → IsAcyclic cs → (i c d : ℕ) (o : Option ℕ) → superclass cs c ≡ o → ((e : ℕ) → NextIs cs i d (superclasses cs e)) → NextIs cs (suc i) d (superclasses cs c)
next_case cs ac i c d None h later = subst (NextIs cs (suc i) d) (sym (chain_none cs ac c h)) (λ lt e. absurd (omega (arith, lt)))
next_case cs ac i c d (Some e) h later =
    subst (NextIs cs (suc i) d) (sym (chain_some cs ac c e h)) (λ lt s. let r = later e (omega (arith, lt)) s in (let l = r.0 in omega (arith, l), r.1))

pub next_up : (cs : List ClassFile) → IsAcyclic cs → (i c d : ℕ) → NextIs cs i d (superclasses cs c)
next_up cs ac zero c d = λ lt h. first_next cs ac c d (ap (superclass cs) (sym (ap (λ xs. get_or xs zero 0) (upward_step cs ac c))) ∙ h)
next_up cs ac (suc i) c d = next_case cs ac i c d (superclass cs c) refl (λ e. next_up cs ac i e d)

-- and they are classes
abbrev IsBelow : (most i : ℕ) → List ℕ → Type 0
IsBelow most i xs = i < length xs → get_or xs i 0 < most

below_case : (cs : List ClassFile) → IsAcyclic cs → (i c : ℕ) (o : Option ℕ) → superclass cs c ≡ o → ((e : ℕ) → e < length cs → IsBelow (length cs) i (superclasses cs e)) → IsBelow (length cs) (suc i) (superclasses cs c)
below_case cs ac i c None h later = subst (IsBelow (length cs) (suc i)) (sym (chain_none cs ac c h)) (λ lt. absurd (omega (arith, lt)))
below_case cs ac i c (Some e) h later = subst (IsBelow (length cs) (suc i)) (sym (chain_some cs ac c e h)) (λ lt. later e (superclass_below cs c e (sym h)) (omega (arith, lt)))

pub all_below : (cs : List ClassFile) → IsAcyclic cs → (i c : ℕ) → c < length cs → IsBelow (length cs) i (superclasses cs c)
all_below cs ac zero c lt = λ h. subst (λ k. k < length cs) (sym (ap (λ xs. get_or xs zero 0) (upward_step cs ac c))) lt
all_below cs ac (suc i) c lt = below_case cs ac i c (superclass cs c) refl (λ e le. all_below cs ac i e le)

-- ---- the table

pub known_more : (S : ℕ → Selected) (most c : ℕ) (table : List (Option Selected)) (s : Selected) → c < most → AreKnown S most table → s ≡ S c → AreKnown S most (set table c (Some s))
known_more S most c table s lt k e =
    let within : c < length table = let long = k.long in omega (arith, lt, long) in
    record {
      long = length-set table c (Some s) ∙ k.long;
      each = λ d h. elim (cases_eq d c) [
        | inl same ↦ subst (λ n. get_or (set table c (Some s)) n None ≡ Some (S n)) (sym same) (get_or-set_same table c (Some s) None within ∙ ap Some e)
        | inr other ↦
            let at = get_or-set_other table c d (Some s) None other in
            at ∙ k.each d (ap is_some (sym at) ∙ h)
      ];
    }

pub is_known : (table : List (Option Selected)) (c : ℕ) (s : Selected) → c < length table → is_some (get_or (set table c (Some s)) c None) ≡ true
is_known table c s lt = ap is_some (get_or-set_same table c (Some s) None lt)

-- what is known of the next class in the list is known of the superclass
pub next_known : (cs : List ClassFile) → IsAcyclic cs → (S : ℕ → Selected) (c : ℕ) (list : List ℕ) → list ≡ superclasses cs c → (i d : ℕ) (table : List (Option Selected)) → 0 < i → i ≤ length list → AreKnown S (length cs) table
    → (i < length list → is_some (get_or table (get_or list i 0) None) ≡ true) → superclass cs (get_or list (i - 1) 0) ≡ Some d → get_or table d None ≡ Some (S d)
next_known cs ac S c list read i d table some le k there h =
    let next = subst (NextIs cs (i - 1) d) (sym read) (next_up cs ac (i - 1) c d) (omega (arith, some, le)) h in
    let same : suc (i - 1) ≡ i = omega (arith, some) in
    let within : i < length list = let l = next.0 in omega (arith, l, some) in
    let at : get_or list i 0 ≡ d = subst (λ k. get_or list k 0 ≡ d) same next.1 in
    k.each d (ap (λ k. is_some (get_or table k None)) (sym at) ∙ there within)

-- the class itself comes first
pub first_there : (cs : List ClassFile) → IsAcyclic cs → (c : ℕ) (list : List ℕ) → list ≡ superclasses cs c → (i : ℕ) (table : List (Option Selected)) → i ≤ 0
    → (i < length list → is_some (get_or table (get_or list i 0) None) ≡ true) → is_some (get_or table c None) ≡ true
first_there cs ac c list read i table le there =
    let none : i ≡ zero = omega (arith, le) in
    let whole = read ∙ upward_step cs ac c in
    let first = subst (λ k. k < length list → is_some (get_or table (get_or list k 0) None) ≡ true) none there in
    ap (λ xs. is_some (get_or table (get_or xs zero 0) None)) (sym whole) ∙ first (subst (λ (xs : List ℕ). zero < length xs) (sym whole) (omega arith))

pub list_below : (cs : List ClassFile) → IsAcyclic cs → (c : ℕ) → c < length cs → (list : List ℕ) → list ≡ superclasses cs c → (i : ℕ) → i < length list → get_or list i 0 < length cs
list_below cs ac c lt list read i = subst (IsBelow (length cs) i) (sym read) (all_below cs ac i c lt)

none_at : (n c : ℕ) → get_or (replicate {A = Option Selected} n None) c None ≡ None
none_at zero c = refl
none_at (suc n) zero = refl
none_at (suc n) (suc c) = none_at n c

none_long : (n : ℕ) → length (replicate {A = Option Selected} n None) ≡ n
none_long zero = refl
none_long (suc n) = ap suc (none_long n)

pub known_none : (S : ℕ → Selected) (most n : ℕ) (table : List (Option Selected)) → table ≡ replicate n None → n ≡ most → AreKnown S most table
known_none S most n table h e = record {
  long = ap length h ∙ (none_long n ∙ e);
  each = λ c t. absurd (false≢true (sym (ap is_some (ap (λ xs. get_or xs c None) h ∙ none_at n c)) ∙ t));
}

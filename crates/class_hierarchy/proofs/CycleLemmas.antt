-- Classes that are above themselves, and the search for them.
use Rattle.std.proofs.Common.{◌≡◌, ℕ, zero, suc, ◌+◌, ◌-◌, ◌<◌, ◌≤◌, Bool, true, false, ◌||◌, eqb, List, [], ◌∷◌, ◌++◌, take, length, get_or, Some, None, inl, inr, refl, sym, ap, ◌∙◌, subst, arith, length-append}
use Rattle.std.specs.Prelude.{if◌then◌else◌}
use Rattle.std.specs.List.{flat_map, list_any, find, range_with_len, IsDistinct}
use Rattle.std.proofs.lemmas.Bool.{cases_lt, or_cases, or_left, or_right, eqb-true, eq-eqb, false≢true, both_ways, cond-true, cond-false}
use Rattle.std.proofs.lemmas.List.{get_or_append_left}
use Rattle.std.proofs.lemmas.List.Folds.{list_any_more}
use Rattle.std.proofs.lemmas.Map.Steps.{length-le_from_distinct_below}
use Rattle.class_pool.specs.declared.class.ClassFile.{ClassFile}
use Rattle.lists.specs.Numbers.{is_among, reached}
use Rattle.lists.proofs.Reached.{in_append, in_flat}
use Rattle.lists.proofs.Among.{among_at}
use Rattle.class_lookup.specs.Hierarchy.{direct_supertypes, supertypes, extends, is_on_a_cycle, IsAcyclic}
use Rattle.number_sets.specs.Numbers.{with_number}
use Rattle.number_sets.proofs.Marks.{any_flip}
use Rattle.number_sets.proofs.Ranks.{place, place_among, listed, listed_at, listed_past}
use Rattle.class_hierarchy.specs.Cycles.{Grows}
use Rattle.class_hierarchy.proofs.Closure.{R, self_in, step_in, last_step, count_below, count_few, count_above, count_some, in_range, enough}
use Rattle.class_hierarchy.proofs.Ranks.{direct_below, nothing_direct}

-- ---- tests of some number

pub any_at : (test : ℕ → Bool) (xs : List ℕ) (x : ℕ) → is_among xs x ≡ true → test x ≡ true → list_any test xs ≡ true
any_at test [] x h e = absurd (false≢true h)
any_at test (y ∷ xs) x h e =
    elim (or_cases (eqb y x) (is_among xs x) h) [
      | inl s ↦ or_left (test y) (list_any test xs) (ap test (eqb-true y x s) ∙ e)
      | inr s ↦ or_right (test y) (list_any test xs) (any_at test xs x s e)
    ]

pub some_at : (test : ℕ → Bool) (xs : List ℕ) → list_any test xs ≡ true → (x : ℕ) × (is_among xs x ≡ true) × (test x ≡ true)
some_at test [] h = absurd (false≢true h)
some_at test (y ∷ xs) h =
    elim (or_cases (test y) (list_any test xs) h) [
      | inl e ↦ (y, or_left (eqb y y) (is_among xs y) (eq-eqb y y refl), e)
      | inr e ↦ let r = some_at test xs e in (r.0, or_right (eqb y r.0) (is_among xs r.0) r.1, r.2)
    ]

-- ---- on a cycle

-- the class is reached from one directly above it
pub OnCycle : List ClassFile → ℕ → Type 0
OnCycle cs c = (d : ℕ) × (is_among (direct_supertypes cs c) d ≡ true) × (R (direct_supertypes cs) (length cs) d c ≡ true)

pub on_cycle : (cs : List ClassFile) (c : ℕ) → is_on_a_cycle cs c ≡ true → OnCycle cs c
unfolding OnCycle supertypes
on_cycle cs c h = some_at (λ d. extends cs d c) (direct_supertypes cs c) h

pub cycle_on : (cs : List ClassFile) (c d : ℕ) → is_among (direct_supertypes cs c) d ≡ true → R (direct_supertypes cs) (length cs) d c ≡ true → is_on_a_cycle cs c ≡ true
unfolding supertypes
cycle_on cs c d h e = any_at (λ d. extends cs d c) (direct_supertypes cs c) d h e

pub decided_by : (b : Bool) (P : Type 0) → (b ≡ true → P) → (P → ⊥) → b ≡ false
decided_by true P h n = absurd (n (h refl))
decided_by false P h n = refl

pub not_on_cycle : (cs : List ClassFile) (c : ℕ) → (OnCycle cs c → ⊥) → is_on_a_cycle cs c ≡ false
not_on_cycle cs c h = decided_by (is_on_a_cycle cs c) (OnCycle cs c) (on_cycle cs c) h

-- ---- where none is, there are ranks: the numbers of classes that are reached

rank_of : List ClassFile → ℕ → ℕ
rank_of cs c = count_below (R (direct_supertypes cs) (length cs) c) (length cs) - 1

ranks_fall : (cs : List ClassFile) → ((c : ℕ) → c < length cs → is_on_a_cycle cs c ≡ false) → (c d : ℕ) → c < length cs → is_among (direct_supertypes cs c) d ≡ true → rank_of cs d < rank_of cs c
unfolding rank_of
ranks_fall cs none c d lt h =
    let n = length cs in
    let up = direct_supertypes cs in
    let low = direct_below cs c d h in
    let out : R up n d c ≡ false = decided_by (R up n d c) (is_on_a_cycle cs c ≡ true) (λ e. cycle_on cs c d h e) (λ e. both_ways (is_on_a_cycle cs c) (none c lt) e) in
    let own = enough up n (direct_below cs) c lt 1 c (self_in up 0 c) in
    let more = count_above (R up n d) (R up n c) n c (λ x e. enough up n (direct_below cs) c lt (suc n) x (step_in up n c d x h e)) lt out own in
    let some = count_some (R up n d) n d low (enough up n (direct_below cs) d low 1 d (self_in up 0 d)) in
    omega (arith, more, some)

class_within : (cs : List ClassFile) (c d : ℕ) → is_among (direct_supertypes cs c) d ≡ true → c < length cs
class_within cs c d h =
    elim (cases_lt c (length cs)) [
      | inl l ↦ l
      | inr g ↦ absurd (false≢true (ap (λ xs. is_among xs d) (sym (nothing_direct cs c g)) ∙ h))
    ]

pub acyclic_without : (cs : List ClassFile) → 0 < length cs → ((c : ℕ) → c < length cs → is_on_a_cycle cs c ≡ false) → IsAcyclic cs
unfolding rank_of
acyclic_without cs some none =
    let n = length cs in
    let ranks = listed (rank_of cs) n in
    record {
      ranks = ranks;
      ranked = record {
        bounded = λ c. elim (cases_lt c n) [
          | inl l ↦ let at = listed_at (rank_of cs) n c l in let few = count_few (R (direct_supertypes cs) n c) n in omega (arith, at, few, some)
          | inr g ↦ let at = listed_past (rank_of cs) n c g in omega (arith, at, some)
        ];
        falls = λ c d h.
            let lt = class_within cs c d h in
            let low = direct_below cs c d h in
            let here = listed_at (rank_of cs) n c lt in
            let there = listed_at (rank_of cs) n d low in
            let fall = ranks_fall cs none c d lt h in
            omega (arith, here, there, fall);
      };
    }

-- ---- numbers that never rise from a class to one directly above it

pub never_up : (above : ℕ → List ℕ) (rank : ℕ → ℕ) → ((c d : ℕ) → is_among (above c) d ≡ true → rank d ≤ rank c) → (k c d : ℕ) → R above k c d ≡ true → rank d ≤ rank c
never_up above rank h zero c d e = absurd (false≢true e)
never_up above rank h (suc k) c d e =
    elim (or_cases (eqb c d) (is_among (flat_map (reached above k) (above c)) d) e) [
      | inl s ↦ let same = ap rank (eqb-true c d s) in omega (arith, same)
      | inr s ↦ let r = in_flat (reached above k) (above c) d s in let one = h c r.0 r.1 in let rest = never_up above rank h k r.0 d r.2 in omega (arith, one, rest)
    ]

-- a class from which they fall to each that is directly above it isn't above itself
pub falling_is_on_none : (cs : List ClassFile) (rank : ℕ → ℕ) → ((c d : ℕ) → is_among (direct_supertypes cs c) d ≡ true → rank d ≤ rank c)
    → (c : ℕ) → ((d : ℕ) → is_among (direct_supertypes cs c) d ≡ true → rank d < rank c) → is_on_a_cycle cs c ≡ false
unfolding OnCycle
falling_is_on_none cs rank h c f =
    not_on_cycle cs c (λ w. let down = f w.0 w.1 in let up = never_up (direct_supertypes cs) rank h (length cs) w.0 c w.2 in omega (arith, down, up))

-- ---- numbers added to others

pub grows_none : (xs : List ℕ) → Grows xs xs
grows_none xs = record { long = omega arith; kept = λ j lt. refl }

with_is : (xs : List ℕ) (y x : ℕ) (b : Bool) → is_among xs y ≡ b → is_among (if b then xs else xs ++ y ∷ []) x ≡ (is_among xs x || eqb y x)
with_is xs y x true h = there_already (is_among xs x) (eqb y x) (λ e. ap (is_among xs) (sym (eqb-true y x e)) ∙ h)
  where
    there_already : (a b : Bool) → (b ≡ true → a ≡ true) → a ≡ (a || b)
    there_already true b h = refl
    there_already false true h = h refl
    there_already false false h = refl
with_is xs y x false h = in_append xs (y ∷ []) x ∙ ap (λ b. is_among xs x || b) (or_none (eqb y x))
  where
    or_none : (b : Bool) → (b || false) ≡ b
    or_none true = refl
    or_none false = refl

pub with_among : (xs : List ℕ) (y x : ℕ) → is_among (with_number xs y) x ≡ (is_among xs x || eqb y x)
with_among xs y x = with_is xs y x (is_among xs y) refl

grows_case : (old xs : List ℕ) (y : ℕ) (b : Bool) → Grows old xs → Grows old (if b then xs else xs ++ y ∷ [])
grows_case old xs y true g = g
grows_case old xs y false g = record {
  long = let long = length-append xs (y ∷ []) in let before = g.long in omega (arith, long, before);
  kept = λ j lt. let within : j < length xs = let before = g.long in omega (arith, lt, before) in get_or_append_left xs (y ∷ []) 0 j within ∙ g.kept j lt;
}

pub grows_more : (old xs : List ℕ) (y : ℕ) → Grows old xs → Grows old (with_number xs y)
grows_more old xs y g = grows_case old xs y (is_among xs y) g

-- ---- the search upwards from what is directly above a class

pub record IsSearched (cs : List ClassFile) (c : ℕ) (found : List ℕ) (next : ℕ) : Type 0 where
  pub sound : (x : ℕ) → is_among found x ≡ true → (d : ℕ) × (is_among (direct_supertypes cs c) d ≡ true) × (R (direct_supertypes cs) (length cs) d x ≡ true)
  pub first : (d : ℕ) → is_among (direct_supertypes cs c) d ≡ true → is_among found d ≡ true
  pub done : (j : ℕ) → j < next → (y : ℕ) → is_among (direct_supertypes cs (get_or found j 0)) y ≡ true → is_among found y ≡ true
  pub within : next ≤ length found

pub searched_first : (cs : List ClassFile) (c : ℕ) (found : List ℕ) → ((x : ℕ) → is_among found x ≡ (is_among [] x || is_among (direct_supertypes cs c) x)) → IsSearched cs c found 0
searched_first cs c found h = record {
  sound = λ x e.
      let up = sym (h x) ∙ e in
      let low = direct_below cs c x up in
      (x, up, enough (direct_supertypes cs) (length cs) (direct_below cs) x low 1 x (self_in (direct_supertypes cs) 0 x));
  first = λ d e. h d ∙ e;
  done = λ j lt y e. absurd (omega (arith, lt));
  within = omega arith;
}

pub searched_more : (cs : List ClassFile) (c : ℕ) (old new : List ℕ) (next : ℕ) → IsSearched cs c old next → next < length old → Grows old new
    → ((x : ℕ) → is_among new x ≡ (is_among old x || is_among (direct_supertypes cs (get_or old next 0)) x)) → IsSearched cs c new (next + 1)
searched_more cs c old new next s lt g h =
    let up = direct_supertypes cs in
    let n = length cs in
    let kept : (x : ℕ) → is_among old x ≡ true → is_among new x ≡ true = λ x e. h x ∙ or_left (is_among old x) (is_among (up (get_or old next 0)) x) e in
    record {
      sound = λ x e. elim (or_cases (is_among old x) (is_among (up (get_or old next 0)) x) (sym (h x) ∙ e)) [
        | inl l ↦ s.sound x l
        | inr r ↦
            let w = s.sound (get_or old next 0) (among_at old next lt) in
            let low = direct_below cs c w.0 w.1 in
            (w.0, w.1, enough up n (direct_below cs) w.0 low (suc n) x (last_step up n w.0 (get_or old next 0) x w.2 r))
      ];
      first = λ d e. kept d (s.first d e);
      done = λ j less y e. elim (cases_lt j next) [
        | inl l ↦
            let there : j < length old = omega (arith, l, lt) in
            kept y (s.done j l y (ap (λ z. is_among (up z) y) (sym (g.kept j there)) ∙ e))
        | inr o ↦
            let at : j ≡ next = omega (arith, less, o) in
            let same = ap (λ k. get_or new k 0) at ∙ g.kept next lt in
            h y ∙ or_right (is_among old y) (is_among (up (get_or old next 0)) y) (ap (λ z. is_among (up z) y) (sym same) ∙ e)
      ];
      within = let long = g.long in omega (arith, long, lt);
    }

closed : (cs : List ClassFile) (c : ℕ) (found : List ℕ) (next : ℕ) → IsSearched cs c found next → length found ≤ next → (k d x : ℕ) → is_among found d ≡ true → R (direct_supertypes cs) k d x ≡ true → is_among found x ≡ true
closed cs c found next s all zero d x h e = absurd (false≢true e)
closed cs c found next s all (suc k) d x h e =
    elim (or_cases (eqb d x) (is_among (flat_map (reached (direct_supertypes cs) k) (direct_supertypes cs d)) x) e) [
      | inl r ↦ ap (is_among found) (sym (eqb-true d x r)) ∙ h
      | inr r ↦
          let w = in_flat (reached (direct_supertypes cs) k) (direct_supertypes cs d) x r in
          let p = place_among found d h in
          let less = p.1 in
          let there = s.done (place found d) (omega (arith, less, all)) w.0 (ap (λ z. is_among (direct_supertypes cs z) w.0) p.0 ∙ w.1) in
          closed cs c found next s all k w.0 x there w.2
    ]

result_case : (cs : List ClassFile) (c : ℕ) (found : List ℕ) (next : ℕ) → IsSearched cs c found next → length found ≤ next → (b : Bool) → is_among found c ≡ b → b ≡ is_on_a_cycle cs c
unfolding OnCycle
result_case cs c found next s all true h = let w = s.sound c h in sym (cycle_on cs c w.0 w.1 w.2)
result_case cs c found next s all false h =
    sym (not_on_cycle cs c (λ w. both_ways (is_among found c) h (closed cs c found next s all (length cs) w.0 c (s.first w.0 w.1) w.2)))

pub searched_all : (cs : List ClassFile) (c : ℕ) (found : List ℕ) (next : ℕ) → IsSearched cs c found next → length found ≤ next → is_among found c ≡ is_on_a_cycle cs c
searched_all cs c found next s all = result_case cs c found next s all (is_among found c) refl

-- no more are found than there are classes
pub found_few : (cs : List ClassFile) (c : ℕ) (found : List ℕ) (next : ℕ) → IsSearched cs c found next → IsDistinct eqb found → length found ≤ length cs
found_few cs c found next s d =
    length-le_from_distinct_below found (length cs) d (λ q h.
    let w = s.sound q (sym (any_flip found q) ∙ h) in
    in_range (direct_supertypes cs) (length cs) (direct_below cs) w.0 (direct_below cs c w.0 w.1) (length cs) q w.2)

-- ---- the first of numbers

pub found_first : (test : ℕ → Bool) (n a k : ℕ) → a ≤ k → k < a + n → ((c : ℕ) → a ≤ c → c < k → test c ≡ false) → test k ≡ true → find test (range_with_len a n) ≡ Some k
found_first test zero a k le lt h e = absurd (omega (arith, le, lt))
found_first test (suc n) a k le lt h e =
    elim (cases_lt a k) [
      | inl l ↦ cond-false (test a) (Some a) (find test (range_with_len (a + 1) n)) (h a (omega arith) l) ∙ found_first test n (a + 1) k (omega (arith, l)) (omega (arith, lt)) (λ c g m. h c (omega (arith, g)) m) e
      | inr g ↦
          let at : a ≡ k = omega (arith, le, g) in
          cond-true (test a) (Some a) (find test (range_with_len (a + 1) n)) (ap test at ∙ e) ∙ ap Some at
    ]

pub found_nowhere : (test : ℕ → Bool) (n a : ℕ) → ((c : ℕ) → a ≤ c → c < a + n → test c ≡ false) → find test (range_with_len a n) ≡ None
found_nowhere test zero a h = refl
found_nowhere test (suc n) a h =
    cond-false (test a) (Some a) (find test (range_with_len (a + 1) n)) (h a (omega arith) (omega arith)) ∙ found_nowhere test n (a + 1) (λ c g m. h c (omega (arith, g)) (omega (arith, m)))

-- ---- as the code goes through the numbers

or_assoc : (a b c : Bool) → ((a || b) || c) ≡ (a || (b || c))
or_assoc true b c = refl
or_assoc false b c = refl

or_nothing : (a : Bool) → a ≡ (a || false)
or_nothing true = refl
or_nothing false = refl

pub added_none : (old : List ℕ) (x : ℕ) → is_among old x ≡ (is_among old x || false)
added_none old x = or_nothing (is_among old x)

pub added_more : (old xs now next : List ℕ) (i : ℕ) → i < length xs → ((x : ℕ) → is_among now x ≡ (is_among old x || is_among (take i xs) x)) → next ≡ with_number now (get_or xs i 0)
    → (x : ℕ) → is_among next x ≡ (is_among old x || is_among (take (i + 1) xs) x)
added_more old xs now next i lt h e x =
    let y = get_or xs i 0 in
    ap (λ (ys : List ℕ). is_among ys x) e
    ∙ (with_among now y x
    ∙ (ap (λ b. b || eqb y x) (h x)
    ∙ (or_assoc (is_among old x) (is_among (take i xs) x) (eqb y x)
    ∙ ap (λ b. is_among old x || b) (sym (list_any_more (λ k. eqb k x) xs i 0 lt)))))

pub grows_added : (old now next : List ℕ) (y : ℕ) → next ≡ with_number now y → Grows old now → Grows old next
grows_added old now next y e g = subst (λ (xs : List ℕ). Grows old xs) (sym e) (grows_more old now y g)

-- what is found next is a class
pub next_below : (cs : List ClassFile) (c : ℕ) (found : List ℕ) (next : ℕ) → IsSearched cs c found next → next < length found → get_or found next 0 < length cs
next_below cs c found next s lt =
    let w = s.sound (get_or found next 0) (among_at found next lt) in
    in_range (direct_supertypes cs) (length cs) (direct_below cs) w.0 (direct_below cs c w.0 w.1) (length cs) (get_or found next 0) w.2

-- Which method is asked for, the first place without a bound, and the causes one behind another.
use Rattle.std.proofs.Common.{◌≡◌, ℕ, suc, ◌+◌, ◌<◌, Bool, true, false, cond, List, [], ◌∷◌, Contains, Option, Some, None, is_none, refl, sym, ap, ◌∙◌, subst, inl, inr, arith}
use Rattle.std.specs.Prelude.{find}
use Rattle.std.specs.List.Sorted.{IsStrictlyIncreasing, IsPermutation}
use Rattle.std.proofs.lemmas.Bool.{cases_Bool, false≢true}
use Rattle.std.proofs.lemmas.List.Kept.{AllPairs-from_increasing}
use Rattle.std.proofs.lemmas.List.Sorted.{Contains-permutation, IsPermutation-sym}
use Rattle.lists.specs.Members.{at_head, in_tail, cons_cases, nil_contains, place_of, rising_pair}
use Rattle.section_check.specs.Least.{IsLeast}
use Rattle.bytecode_model.specs.Program.{Program}
use Rattle.method_flow.specs.Keeping.{BoundOf}
use Rattle.method_flow.specs.Regions.{AreMethodsOf}
use Rattle.method_flow.specs.declared.timing.Timing.{Timing}
use Rattle.call_regions.specs.Calling.{IsTargetsFirst}
use Rattle.call_regions.specs.Laws.{OrderExcludesCycles}
use Rattle.bound_rules.specs.Bounding.{IsAsked, HasNoRecursion, IsLeftWith, IsCause}
use Rattle.bound_rules.specs.declared.faults.BoundRefusal.{BoundRefusal}
use Rattle.bound_rules.specs.declared.faults.BoundRefusal.TheVariants.{NoMethod, Recursion, Irreducible, MissingBound, TooLarge, NoMemory}
use Rattle.bound_causes.specs.Headers.{AreHeaderPlaces, HeadsUnbounded}
use Rattle.bound_causes.specs.Causes.{IsCallCause, IsLoopCause, IsRootCause, IsUnboundedIn}

-- ---- the first that passes a test

tail_rises : (x : ℕ) (xs : List ℕ) → IsStrictlyIncreasing (x ∷ xs) → IsStrictlyIncreasing xs
tail_rises x xs rising k below = rising_pair (x ∷ xs) rising (suc k) (suc (k + 1)) (omega arith) (omega arith)

head_least : (x : ℕ) (xs : List ℕ) → IsStrictlyIncreasing (x ∷ xs) → (y : ℕ) → Contains xs y → x < y
head_least x xs rising y has =
    let at = place_of xs y has in
    let inside = at.1 in
    let up = rising_pair (x ∷ xs) rising 0 (suc at.0) (omega arith) (omega arith) in
    let is = at.2 in
    omega arith

-- the least that passes, or none does
abbrev pub IsLeastAmong : (test : ℕ → Bool) → List ℕ → Option ℕ → Type 0
IsLeastAmong test xs None = (y : ℕ) → Contains xs y → test y ≡ false
IsLeastAmong test xs (Some x) = Contains xs x × (test x ≡ true) × ((y : ℕ) → Contains xs y → y < x → test y ≡ false)

one_more_fails : (test : ℕ → Bool) (x : ℕ) (xs : List ℕ) → test x ≡ false → (o : Option ℕ) → IsLeastAmong test xs o → IsLeastAmong test (x ∷ xs) o
one_more_fails test x xs fails None h = λ y has. elim (cons_cases x y xs has) [ inl same ↦ ap test (sym same) ∙ fails | inr there ↦ h y there ]
one_more_fails test x xs fails (Some z) h = (
  in_tail x z xs h.0,
  h.1,
  λ y has less. elim (cons_cases x y xs has) [ inl same ↦ ap test (sym same) ∙ fails | inr there ↦ h.2 y there less ],
)

pub find_least : (test : ℕ → Bool) (xs : List ℕ) → IsStrictlyIncreasing xs → IsLeastAmong test xs (find test xs)
find_least test [] rising = λ y has. absurd (nil_contains y has)
find_least test (x ∷ xs) rising =
    let Q : Option ℕ → Type 0 = λ o. IsLeastAmong test (x ∷ xs) o in
    elim (cases_Bool (test x)) [
      | inl passes ↦
          let none : (y : ℕ) → Contains (x ∷ xs) y → y < x → test y ≡ false = λ y has less.
          elim (cons_cases x y xs has) [ inl same ↦ absurd (let eq : x ≡ y = same in omega arith) | inr there ↦ absurd (let up = head_least x xs rising y there in omega arith) ] in
          subst Q (sym (found_first passes)) (at_head x xs, passes, none)
      | inr fails ↦ subst Q (sym (found_later fails)) (one_more_fails test x xs fails (find test xs) (find_least test xs (tail_rises x xs rising)))
    ]
  where
    found_first : test x ≡ true → find test (x ∷ xs) ≡ Some x
    found_first e = ap (λ (b : Bool). cond b (Some x) (find test xs)) e

    found_later : test x ≡ false → find test (x ∷ xs) ≡ find test xs
    found_later e = ap (λ (b : Bool). cond b (Some x) (find test xs)) e

-- ---- the first place without a bound

none_is : (o : Option ℕ) → is_none o ≡ true → o ≡ None
none_is None e = refl
none_is (Some x) e = absurd (false≢true e)

module _ (P : Program) (bound_of : BoundOf) (m : ℕ) (places : List ℕ) (are : AreHeaderPlaces P m places) where
  is_lacking : (p : ℕ) → HeadsUnbounded P bound_of m p → is_none (bound_of m p) ≡ false → ⊥
  is_lacking p h fails = false≢true (sym fails ∙ ap is_none h.none)

  least_place : (o : Option ℕ) → IsLeastAmong (λ p. is_none (bound_of m p)) places o → IsLeast (HeadsUnbounded P bound_of m) o
  least_place None h = λ p heads. is_lacking p heads (h p ((are.each p).1 heads.heads))
  least_place (Some x) h = (record { heads = (are.each x).0 h.0; none = none_is (bound_of m x) h.1 }, λ p less heads. is_lacking p heads (h.2 p ((are.each p).1 heads.heads) less))

  pub first_place : IsLeftWith P m [] → IsUnboundedIn P bound_of m (find (λ p. is_none (bound_of m p)) places)
  first_place left = (left, least_place (find (λ p. is_none (bound_of m p)) places) (find_least (λ p. is_none (bound_of m p)) places are.rising))

-- ---- the methods that may run, sorted

pub sorted_methods : (K : ℕ → Type 0) (xs ys : List ℕ) → AreMethodsOf K xs → IsPermutation xs ys → IsStrictlyIncreasing ys → AreMethodsOf K ys
sorted_methods K xs ys are moved rising = record {
  distinct = λ i j d less below same. let up = AllPairs-from_increasing ys rising i j d less below in omega arith;
  each = λ x. (λ has. (are.each x).0 (Contains-permutation ys xs x (IsPermutation-sym xs ys moved) has), λ k. Contains-permutation xs ys x moved ((are.each x).1 k));
}

-- ---- causes

pub no_recursion : OrderExcludesCycles → (P : Program) (root : ℕ) (order : List ℕ) → IsTargetsFirst P root order → HasNoRecursion P root
no_recursion excludes P root order is cycle recursion = excludes P root order cycle is recursion

module _ (P : Program) (bound_of : BoundOf) (root : ℕ) where
  pub of_calls : (e : BoundRefusal) → IsCallCause P root e → IsRootCause P bound_of root e
  of_calls NoMethod h = h
  of_calls (Recursion cycle) h = h
  of_calls (Irreducible m nodes) h = absurd h
  of_calls (MissingBound m p) h = absurd h
  of_calls (TooLarge m) h = h
  of_calls NoMemory h = tt

  pub of_loops : HasNoRecursion P root → (e : BoundRefusal) → IsLoopCause P bound_of root e → IsRootCause P bound_of root e
  of_loops none NoMethod h = h
  of_loops none (Recursion cycle) h = absurd h
  of_loops none (Irreducible m nodes) h = (none, h)
  of_loops none (MissingBound m p) h = (none, h.0, h.1)
  of_loops none (TooLarge m) h = h
  of_loops none NoMemory h = tt

  pub cause_of : (t : Timing) (named : ℕ → Type 0) → IsAsked P named root → (e : BoundRefusal) → IsRootCause P bound_of root e → IsCause P t bound_of named e
  cause_of t named asked NoMethod h = absurd h
  cause_of t named asked (Recursion cycle) h = (root, asked, h)
  cause_of t named asked (Irreducible m nodes) h = (root, asked, h.0, h.1)
  cause_of t named asked (MissingBound m p) h = (root, asked, h.0, h.1, h.2)
  cause_of t named asked (TooLarge m) h = absurd h
  cause_of t named asked NoMemory h = tt

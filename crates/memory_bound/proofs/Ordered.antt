-- Methods taken in an order, and methods that rise.
use Rattle.std.proofs.Common.{◌≡◌, ◌≢◌, ℕ, ◌+◌, ◌<◌, ◌≤◌, ◌⊎◌, List, length, get_or, set, take, Contains, sym, ◌∙◌, subst, inl, inr, arith}
use Rattle.std.specs.List.Sorted.{IsStrictlyIncreasing}
use Rattle.std.proofs.lemmas.Bool.{cases_eq, cases_lt}
use Rattle.std.proofs.lemmas.List.{get_or-take, length-take-le, take_all, take_more, get_or-set_same, get_or-set_other}
use Rattle.std.proofs.lemmas.List.Elements.{Contains-push_cases}
use Rattle.lists.specs.Members.{place_of, contains_at, rising_all}
use Rattle.method_cache.specs.Regions.Region.{AreDistinct}

-- what is less than the number at a place of a list that rises stands before it
pub stands_before : (ms : List ℕ) (i : ℕ) → IsStrictlyIncreasing ms → i < length ms → (x : ℕ) → Contains ms x → x < get_or ms i 0 → Contains (take i ms) x
stands_before ms i rising below x has less =
    let at = place_of ms x has in
    elim (cases_lt at.0 i) [
      | inl lt ↦
          let long = length-take-le i ms (omega arith) in
          contains_at (take i ms) at.0 x (omega arith) (get_or-take i ms at.0 0 lt ∙ at.2)
      | inr past ↦ let up = rising_all ms rising i at.0 (omega arith) at.1 in let is = at.2 in absurd (omega arith)
    ]

-- the numbers before the next place are those before this one, and the one here
taken_cases : (ms : List ℕ) (i x : ℕ) → i < length ms → Contains (take (i + 1) ms) x → Contains (take i ms) x ⊎ (get_or ms i 0 ≡ x)
taken_cases ms i x lt has = Contains-push_cases (take i ms) (get_or ms i 0) x (subst (λ (xs : List ℕ). Contains xs x) (take_more ms i 0 lt) has)

-- what holds of each of those before, and of the one here
pub one_further : (Q : ℕ → Type 0) (ms : List ℕ) (i : ℕ) → i < length ms → ((x : ℕ) → Contains (take i ms) x → Q x) → Q (get_or ms i 0)
    → (x : ℕ) → Contains (take (i + 1) ms) x → Q x
one_further Q ms i lt before here x has = elim (taken_cases ms i x lt has) [ inl there ↦ before x there | inr same ↦ subst Q same here ]

-- at the end these are all
pub all_taken : (Q : ℕ → Type 0) (ms : List ℕ) (i : ℕ) → length ms ≤ i → ((x : ℕ) → Contains (take i ms) x → Q x) → (x : ℕ) → Contains ms x → Q x
all_taken Q ms i past all = subst (λ (xs : List ℕ). (x : ℕ) → Contains xs x → Q x) (take_all i ms past) all

-- where each stands once, those before are others
apart_before : (ms : List ℕ) (i x : ℕ) → AreDistinct ms → i < length ms → Contains (take i ms) x → x ≢ get_or ms i 0
apart_before ms i x distinct lt has same =
    let at = place_of (take i ms) x has in
    let long = length-take-le i ms (omega arith) in
    let before : at.0 < i = let inside = at.1 in omega arith in
    let is = get_or-take i ms at.0 0 before in
    distinct at.0 i 0 before lt (sym is ∙ at.2 ∙ same)

-- so a table keeps what holds of those before when the item of the one here is written
pub one_written : {A : Type 0} (Q : ℕ → A → Type 0) (ms : List ℕ) (table : List A) (d v : A) (i : ℕ) → AreDistinct ms → i < length ms → get_or ms i 0 < length table
    → ((x : ℕ) → Contains (take i ms) x → Q x (get_or table x d)) → Q (get_or ms i 0) v
    → (x : ℕ) → Contains (take (i + 1) ms) x → Q x (get_or (set table (get_or ms i 0) v) x d)
one_written {A} Q ms table d v i distinct lt below before here x has =
    let m = get_or ms i 0 in
    elim (taken_cases ms i x lt has) [
      | inl there ↦ subst (λ (a : A). Q x a) (sym (get_or-set_other table (get_or ms i 0) x v d (apart_before ms i x distinct lt there))) (before x there)
      | inr same ↦
          subst (λ (y : ℕ). Q y (get_or (set table (get_or ms i 0) v) y d)) same
          (subst (λ (a : A). Q (get_or ms i 0) a) (sym (get_or-set_same table (get_or ms i 0) v d below)) here)
    ]

-- the same of a list in which a number may stand more than once
pub each_written : {A : Type 0} (Q : ℕ → A → Type 0) (ms : List ℕ) (table : List A) (d v : A) (i : ℕ) → i < length ms → get_or ms i 0 < length table
    → ((x : ℕ) → Contains (take i ms) x → Q x (get_or table x d)) → Q (get_or ms i 0) v
    → (x : ℕ) → Contains (take (i + 1) ms) x → Q x (get_or (set table (get_or ms i 0) v) x d)
each_written {A} Q ms table d v i lt below before here x has =
    elim (cases_eq x (get_or ms i 0)) [
      | inl same ↦
          subst (λ (y : ℕ). Q y (get_or (set table (get_or ms i 0) v) y d)) (sym same)
          (subst (λ (a : A). Q (get_or ms i 0) a) (sym (get_or-set_same table (get_or ms i 0) v d below)) here)
      | inr other ↦
          subst (λ (a : A). Q x a) (sym (get_or-set_other table (get_or ms i 0) x v d other))
          (before x (elim (taken_cases ms i x lt has) [ inl there ↦ there | inr same ↦ absurd (other (sym same)) ]))
    ]

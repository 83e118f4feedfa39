-- The regions of a section by the nodes that they hold, and the section's loops by their places.
use Rattle.std.proofs.Common.{◌≡◌, ℕ, zero, suc, ◌+◌, ◌<◌, Bool, true, false, List, [], ◌∷◌, length, map, Contains, Option, Some, None, refl, ap, ◌∙◌, subst, inl, inr, arith, eqb-true}
use Rattle.std.specs.Prelude.{if◌then◌else◌, ◌&&◌, ◌||◌, unwrap_or, slice_index_or}
use Rattle.std.proofs.lemmas.Bool.{or_cases, or_left, or_right, eq-eqb}
use Rattle.lists.specs.Members.{at_head, in_tail, cons_cases, nil_contains}
use Rattle.section_check.specs.Bounded.{BoundedLoop, holds}
use Rattle.section_check.specs.Section.{CertifiedLoop, priced, bounded}
use Rattle.section_check.specs.Placing.{IsEntryAt}
use Rattle.bound_rules.specs.Told.{is_in_region}

-- ---- members

pub is_held : (ms : List ℕ) (u : ℕ) → holds ms u ≡ true → Contains ms u
is_held [] u h = let bad : ⊥ = cc in absurd bad
is_held (m ∷ ms) u h =
    elim (or_cases _ _ h) [
      | inl here ↦ let Q : ℕ → Type 0 = λ y. Contains (m ∷ ms) y in subst Q (eqb-true m u here) (at_head m ms)
      | inr there ↦ in_tail m u ms (is_held ms u there)
    ]

pub is_holding : (ms : List ℕ) (u : ℕ) → Contains ms u → holds ms u ≡ true
is_holding [] u c = absurd (nil_contains u c)
is_holding (m ∷ ms) u c =
    elim (cons_cases m u ms c) [
      | inl here ↦ or_left _ _ (eq-eqb m u here)
      | inr there ↦ or_right _ _ (is_holding ms u there)
    ]

-- ---- the region that holds a node

-- the place of the first region that holds the node, counted from i
abbrev pub region_from : ℕ → List CertifiedLoop → ℕ → Option ℕ
region_from i [] u = None
region_from i (l ∷ ls) u = if l.region then (if holds l.members u then Some i else region_from (suc i) ls u) else region_from (suc i) ls u

-- loop i is a region that holds the node
pub record IsRegionAt (ls : List CertifiedLoop) (u i : ℕ) : Type 0 where
  pub loop : CertifiedLoop
  pub at : IsEntryAt ls i loop
  pub region : loop.region ≡ true
  pub inside : Contains loop.members u

further : (ls : List CertifiedLoop) (l : CertifiedLoop) (u j : ℕ) → IsRegionAt ls u j → IsRegionAt (l ∷ ls) u (suc j)
further ls l u j r = let b = r.at.0 in record { loop = r.loop; at = (omega arith, r.at.1); region = r.region; inside = r.inside }

-- what is found is a region that holds the node
pub found_region : (ls : List CertifiedLoop) (i u k : ℕ) → region_from i ls u ≡ Some k → (j : ℕ) × (k ≡ i + j) × IsRegionAt ls u j
found_region [] i u k e = absurd (cc)
found_region (l ∷ ls) i u k e = by l.region refl (holds l.members u) refl e (found_region ls (suc i) u k)
  where
    by : (r : Bool) → l.region ≡ r → (h : Bool) → holds l.members u ≡ h → (if r then (if h then Some i else region_from (suc i) ls u) else region_from (suc i) ls u) ≡ Some k
        → (region_from (suc i) ls u ≡ Some k → (j : ℕ) × (k ≡ suc i + j) × IsRegionAt ls u j) → (j : ℕ) × (k ≡ i + j) × IsRegionAt (l ∷ ls) u j
    by true is true is' e' more = let same : i ≡ k = cc in (0, omega arith, record { loop = l; at = (omega arith, refl); region = is; inside = is_held l.members u is' })
    by true is false is' e' more = let x = more e' in let same = x.1 in (suc x.0, omega arith, further ls l u x.0 x.2)
    by false is h is' e' more = let x = more e' in let same = x.1 in (suc x.0, omega arith, further ls l u x.0 x.2)

-- where a region holds the node, one is found
pub some_region : (ls : List CertifiedLoop) (i u j : ℕ) → IsRegionAt ls u j → (k : ℕ) × (region_from i ls u ≡ Some k)
some_region [] i u j r = let b = r.at.0 in absurd (omega arith)
some_region (l ∷ ls) i u zero r =
    let e : region_from i (l ∷ ls) u ≡ Some i =
    ap (λ (x : CertifiedLoop). if x.region then (if holds x.members u then Some i else region_from (suc i) ls u) else region_from (suc i) ls u) r.at.1
    ∙ (ap (λ (b : Bool). if b then (if holds r.loop.members u then Some i else region_from (suc i) ls u) else region_from (suc i) ls u) r.region ∙ ap (λ (b : Bool). if b then Some i else region_from (suc i) ls u) (is_holding r.loop.members u r.inside))
    in
    (i, e)
some_region (l ∷ ls) i u (suc j) r = by l.region (holds l.members u) (some_region ls (suc i) u j (let b = r.at.0 in record { loop = r.loop; at = (omega arith, r.at.1); region = r.region; inside = r.inside }))
  where
    by : (b h : Bool) → (k : ℕ) × (region_from (suc i) ls u ≡ Some k) → (k : ℕ) × ((if b then (if h then Some i else region_from (suc i) ls u) else region_from (suc i) ls u) ≡ Some k)
    by true true x = (i, refl)
    by true false x = x
    by false h x = x

-- where none is found, no region has the node
pub no_region : (ls : List CertifiedLoop) (i u : ℕ) → region_from i ls u ≡ None → is_in_region ls u ≡ false
no_region [] i u e = refl
no_region (l ∷ ls) i u e = by l.region (holds l.members u) e (no_region ls (suc i) u)
  where
    by : (b h : Bool) → (if b then (if h then Some i else region_from (suc i) ls u) else region_from (suc i) ls u) ≡ None → (region_from (suc i) ls u ≡ None → is_in_region ls u ≡ false)
        → ((b && h) || is_in_region ls u) ≡ false
    by true true e' more = absurd (cc)
    by true false e' more = more e'
    by false h e' more = more e'

pub in_a_region : (ls : List CertifiedLoop) (i u k : ℕ) → region_from i ls u ≡ Some k → is_in_region ls u ≡ true
in_a_region [] i u k e = absurd (cc)
in_a_region (l ∷ ls) i u k e = by l.region (holds l.members u) e (in_a_region ls (suc i) u k)
  where
    by : (b h : Bool) → (if b then (if h then Some i else region_from (suc i) ls u) else region_from (suc i) ls u) ≡ Some k → (region_from (suc i) ls u ≡ Some k → is_in_region ls u ≡ true)
        → ((b && h) || is_in_region ls u) ≡ true
    by true true e' more = refl
    by true false e' more = more e'
    by false h e' more = more e'

-- ---- loops by their places

-- loop i with its price, as far as walks speak of it
pub priced_loop : (ls : List CertifiedLoop) (bounds : List ℕ) (fees : List (Option ℕ)) (i : ℕ) (l : CertifiedLoop) → length bounds ≡ length ls → length fees ≡ length ls → IsEntryAt ls i l
    → (b : BoundedLoop) × (i < length (map bounded (priced ls bounds fees))) × (slice_index_or (map bounded (priced ls bounds fees)) i b ≡ b) × (b.members ≡ l.members) × (b.load ≡ unwrap_or (slice_index_or fees i None) 0)
priced_loop [] bounds fees i l e1 e2 at = let b = at.0 in absurd (omega arith)
priced_loop (k ∷ ks) [] fees i l e1 e2 at = absurd (omega arith)
priced_loop (k ∷ ks) (b ∷ bs) [] i l e1 e2 at = absurd (omega arith)
priced_loop (k ∷ ks) (b ∷ bs) (f ∷ fs) zero l e1 e2 at = (bounded (record { certified = k; bound = b; load = f }), omega arith, refl, ap (λ (x : CertifiedLoop). x.members) at.1, refl)
priced_loop (k ∷ ks) (b ∷ bs) (f ∷ fs) (suc i) l e1 e2 at =
    let below = at.0 in
    let r = priced_loop ks bs fs i l (omega arith) (omega arith) (omega arith, at.1) in
    let lt = r.1 in
    (r.0, omega arith, r.2, r.3, r.4)

pub at_first : (l : CertifiedLoop) (ls : List CertifiedLoop) → IsEntryAt (l ∷ ls) 0 l
at_first l ls = (omega arith, refl)

pub at_next : (l : CertifiedLoop) (ls : List CertifiedLoop) (i : ℕ) (k : CertifiedLoop) → IsEntryAt ls i k → IsEntryAt (l ∷ ls) (suc i) k
at_next l ls i k at = let b = at.0 in (omega arith, at.1)

-- a list that is told of each loop, by the loop's place; past the last one it is empty
abbrev pub lists_by : (K : ℕ → CertifiedLoop → Type 0) → ((i : ℕ) (l : CertifiedLoop) → K i l → List ℕ) → (ls : List CertifiedLoop) → ((i : ℕ) (l : CertifiedLoop) → IsEntryAt ls i l → K i l) → ℕ → List ℕ
lists_by K list [] each i = []
lists_by K list (l ∷ ls) each zero = list 0 l (each 0 l (at_first l ls))
lists_by K list (l ∷ ls) each (suc i) = lists_by (λ j k. K (suc j) k) (λ j k. list (suc j) k) ls (λ j k at. each (suc j) k (at_next l ls j k at)) i

pub list_at : (K : ℕ → CertifiedLoop → Type 0) (list : (i : ℕ) (l : CertifiedLoop) → K i l → List ℕ) (ls : List CertifiedLoop) (each : (i : ℕ) (l : CertifiedLoop) → IsEntryAt ls i l → K i l) (i : ℕ) (l : CertifiedLoop)
    → IsEntryAt ls i l → (h : K i l) × (lists_by K list ls each i ≡ list i l h)
list_at K list [] each i l at = let b = at.0 in absurd (omega arith)
list_at K list (k ∷ ks) each zero l at =
    let Q : CertifiedLoop → Type 0 = λ x. (h : K 0 x) × (lists_by K list (k ∷ ks) each 0 ≡ list 0 x h) in
    subst Q at.1 (each 0 k (at_first k ks), refl)
list_at K list (k ∷ ks) each (suc i) l at =
    let b = at.0 in
    list_at (λ j x. K (suc j) x) (λ j x. list (suc j) x) ks (λ j x at'. each (suc j) x (at_next k ks j x at')) i l (omega arith, at.1)

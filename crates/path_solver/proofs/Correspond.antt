-- The loops of a nest with their bounds and loads, and the same loops in a section.
use Rattle.std.proofs.Common.{◌≡◌, ℕ, zero, suc, false, List, [], ◌∷◌, length, get_or, map, Contains, Some, None, refl, sym, ap, ◌∙◌, inl, inr, arith}
use Rattle.std.proofs.lemmas.Bool.{cases_eq}
use Rattle.std.specs.List.Sorted.{IsStrictlyIncreasing}
use Rattle.lists.specs.Members.{at_head, in_tail, cons_cases, nil_contains}
use Rattle.loop_nest.specs.Nest.{NaturalLoop, headers_of}
use Rattle.section_check.specs.Placing.{IsEntryAt}
use Rattle.section_check.specs.Bounded.{BoundedLoop}
use Rattle.section_check.specs.Section.{PricedLoop, priced, bounded, headed_by}
use Rattle.section_check.proofs.Sums.{headed_here, headed_later}
use Rattle.path_solver.specs.Certifying.{certified}
use Rattle.path_solver.specs.Longest.{bounded_loops}
use Rattle.path_solver.specs.Ordering.{NoLoopHas}
use Rattle.path_solver.proofs.Loops.{same_place, same_at}

abbrev pub with_bound : NaturalLoop → (bound load : ℕ) → BoundedLoop
with_bound l bound load = record { header = l.header; members = l.members; bound = bound; load = load }

abbrev pub with_price : NaturalLoop → (bound load iteration_cost : ℕ) → PricedLoop
with_price l bound load iteration_cost = record { certified = record { header = l.header; iteration_cost = iteration_cost; members = l.members; region = false }; bound = bound; load = Some load }

to_bounded_at : (loops : List NaturalLoop) (bounds loads : List ℕ) → length bounds ≡ length loops → length loads ≡ length loops → (i : ℕ) (l : NaturalLoop) → IsEntryAt loops i l
    → IsEntryAt (bounded_loops loops bounds loads) i (with_bound l (get_or bounds i 0) (get_or loads i 0))
to_bounded_at [] bounds loads b m i l at = let below = at.0 in absurd (omega arith)
to_bounded_at (k ∷ ks) [] loads b m i l at = absurd (omega arith)
to_bounded_at (k ∷ ks) (x ∷ xs) [] b m i l at = absurd (omega arith)
to_bounded_at (k ∷ ks) (x ∷ xs) (y ∷ ys) b m zero l at = (omega arith, ap (λ (z : NaturalLoop). with_bound z x y) at.1)
to_bounded_at (k ∷ ks) (x ∷ xs) (y ∷ ys) b m (suc i) l at =
    let below = at.0 in
    let r = to_bounded_at ks xs ys (omega arith) (omega arith) i l (omega arith, at.1) in
    let lt = r.0 in
    (omega arith, r.1)

from_bounded_at : (loops : List NaturalLoop) (bounds loads : List ℕ) (i : ℕ) (k : BoundedLoop) → IsEntryAt (bounded_loops loops bounds loads) i k
    → (l : NaturalLoop) × IsEntryAt loops i l × (k ≡ with_bound l (get_or bounds i 0) (get_or loads i 0))
from_bounded_at [] bounds loads i k at = let below = at.0 in absurd (omega arith)
from_bounded_at (l ∷ ls) [] loads i k at = let below = at.0 in absurd (omega arith)
from_bounded_at (l ∷ ls) (x ∷ xs) [] i k at = let below = at.0 in absurd (omega arith)
from_bounded_at (l ∷ ls) (x ∷ xs) (y ∷ ys) zero k at = (l, (omega arith, refl), sym at.1)
from_bounded_at (l ∷ ls) (x ∷ xs) (y ∷ ys) (suc i) k at =
    let below = at.0 in
    let r = from_bounded_at ls xs ys i k (omega arith, at.1) in
    let lt = r.1.0 in
    (r.0, (omega arith, r.1.1), r.2)

to_priced_at : (loops : List NaturalLoop) (bounds loads iteration_costs : List ℕ) → length bounds ≡ length loops → length loads ≡ length loops → length iteration_costs ≡ length loops → (i : ℕ) (l : NaturalLoop) → IsEntryAt loops i l
    → IsEntryAt (priced (certified loops iteration_costs) bounds (map Some loads)) i (with_price l (get_or bounds i 0) (get_or loads i 0) (get_or iteration_costs i 0))
to_priced_at [] bounds loads iteration_costs b m w i l at = let below = at.0 in absurd (omega arith)
to_priced_at (k ∷ ks) [] loads iteration_costs b m w i l at = absurd (omega arith)
to_priced_at (k ∷ ks) (x ∷ xs) [] iteration_costs b m w i l at = absurd (omega arith)
to_priced_at (k ∷ ks) (x ∷ xs) (y ∷ ys) [] b m w i l at = absurd (omega arith)
to_priced_at (k ∷ ks) (x ∷ xs) (y ∷ ys) (v ∷ vs) b m w zero l at = (omega arith, ap (λ (z : NaturalLoop). with_price z x y v) at.1)
to_priced_at (k ∷ ks) (x ∷ xs) (y ∷ ys) (v ∷ vs) b m w (suc i) l at =
    let below = at.0 in
    let r = to_priced_at ks xs ys vs (omega arith) (omega arith) (omega arith) i l (omega arith, at.1) in
    let lt = r.0 in
    (omega arith, r.1)

pub from_priced_at : (loops : List NaturalLoop) (bounds loads iteration_costs : List ℕ) (i : ℕ) (k : PricedLoop) → IsEntryAt (priced (certified loops iteration_costs) bounds (map Some loads)) i k
    → (l : NaturalLoop) × IsEntryAt loops i l × (k ≡ with_price l (get_or bounds i 0) (get_or loads i 0) (get_or iteration_costs i 0))
from_priced_at [] bounds loads iteration_costs i k at = let below = at.0 in absurd (omega arith)
from_priced_at (l ∷ ls) bounds loads [] i k at = let below = at.0 in absurd (omega arith)
from_priced_at (l ∷ ls) [] loads (v ∷ vs) i k at = let below = at.0 in absurd (omega arith)
from_priced_at (l ∷ ls) (x ∷ xs) [] (v ∷ vs) i k at = let below = at.0 in absurd (omega arith)
from_priced_at (l ∷ ls) (x ∷ xs) (y ∷ ys) (v ∷ vs) zero k at = (l, (omega arith, refl), sym at.1)
from_priced_at (l ∷ ls) (x ∷ xs) (y ∷ ys) (v ∷ vs) (suc i) k at =
    let below = at.0 in
    let r = from_priced_at ls xs ys vs i k (omega arith, at.1) in
    let lt = r.1.0 in
    (r.0, (omega arith, r.1.1), r.2)

same_all : (loops : List NaturalLoop) (bounds loads iteration_costs : List ℕ) → length bounds ≡ length loops → length loads ≡ length loops → length iteration_costs ≡ length loops
    → map bounded (priced (certified loops iteration_costs) bounds (map Some loads)) ≡ bounded_loops loops bounds loads
same_all [] bounds loads iteration_costs b m w = refl
same_all (k ∷ ks) [] loads iteration_costs b m w = absurd (omega arith)
same_all (k ∷ ks) (x ∷ xs) [] iteration_costs b m w = absurd (omega arith)
same_all (k ∷ ks) (x ∷ xs) (y ∷ ys) [] b m w = absurd (omega arith)
same_all (k ∷ ks) (x ∷ xs) (y ∷ ys) (v ∷ vs) b m w = ap (λ (zs : List BoundedLoop). with_bound k x y ∷ zs) (same_all ks xs ys vs (omega arith) (omega arith) (omega arith))

-- no loop of a list is headed by u, or the first that is
none_headed : (ls : List PricedLoop) (u : ℕ) → ((k : PricedLoop) → Contains ls k → k.certified.header ≡ u → ⊥) → headed_by u ls ≡ None
none_headed [] u never = refl
none_headed (l ∷ ls) u never = headed_later u l ls (never l (at_head l ls)) ∙ none_headed ls u (λ k has. never k (in_tail l k ls has))

one_headed : (ls : List PricedLoop) (u : ℕ) (k : PricedLoop) → Contains ls k → k.certified.header ≡ u → ((l : PricedLoop) → Contains ls l → l.certified.header ≡ u → l ≡ k) → headed_by u ls ≡ Some k
one_headed [] u k has same one = absurd (nil_contains k has)
one_headed (l ∷ ls) u k has same one =
    elim (cases_eq l.certified.header u) [
      | inl here ↦ headed_here u l ls here ∙ ap (λ (z : PricedLoop). Some z) (one l (at_head l ls) here)
      | inr other ↦
          elim (cons_cases l k ls has) [
            | inl first ↦ absurd (other (ap (λ (z : PricedLoop). z.certified.header) first ∙ same))
            | inr there ↦ headed_later u l ls other ∙ one_headed ls u k there same (λ z c. one z (in_tail l z ls c))
          ]
    ]

module _ (loops : List NaturalLoop) (bounds loads : List ℕ) (b : length bounds ≡ length loops) (m : length loads ≡ length loops) where
  abbrev pub bounded_at : NaturalLoop → ℕ → BoundedLoop
  bounded_at l i = record { header = l.header; members = l.members; bound = get_or bounds i 0; load = get_or loads i 0 }

  pub to_bounded : (i : ℕ) (l : NaturalLoop) → IsEntryAt loops i l → IsEntryAt (bounded_loops loops bounds loads) i (bounded_at l i)
  to_bounded i l at = to_bounded_at loops bounds loads b m i l at

  pub from_bounded : (k : BoundedLoop) → Contains (bounded_loops loops bounds loads) k → (i : ℕ) × (l : NaturalLoop) × IsEntryAt loops i l × (k ≡ bounded_at l i)
  from_bounded k has = let r = from_bounded_at loops bounds loads has.0 k (has.1, has.2) in (has.0, r.0, r.1, r.2)

  module _ (iteration_costs : List ℕ) (w : length iteration_costs ≡ length loops) where
    abbrev pub prices : List PricedLoop
    prices = priced (certified loops iteration_costs) bounds (map Some loads)

    abbrev pub price_at : NaturalLoop → ℕ → PricedLoop
    price_at l i = record { certified = record { header = l.header; iteration_cost = get_or iteration_costs i 0; members = l.members; region = false }; bound = get_or bounds i 0; load = Some (get_or loads i 0) }

    pub to_priced : (i : ℕ) (l : NaturalLoop) → IsEntryAt loops i l → IsEntryAt prices i (price_at l i)
    to_priced i l at = to_priced_at loops bounds loads iteration_costs b m w i l at

    pub from_priced : (k : PricedLoop) → Contains prices k → (i : ℕ) × (l : NaturalLoop) × IsEntryAt loops i l × (k ≡ price_at l i)
    from_priced k has = let r = from_priced_at loops bounds loads iteration_costs has.0 k (has.1, has.2) in (has.0, r.0, r.1, r.2)

    -- the loops of the section are those of the nest
    pub same_loops : map bounded prices ≡ bounded_loops loops bounds loads
    same_loops = same_all loops bounds loads iteration_costs b m w

    pub headed_none : (u : ℕ) → NoLoopHas loops u → headed_by u prices ≡ None
    headed_none u none =
        none_headed prices u (λ k has same.
        let r = from_priced k has in
        none r.0 r.1 r.2 (ap (λ (z : PricedLoop). z.certified.header) (sym r.3) ∙ same))

    -- where headers rise, a loop is found by its header at its place
    pub headed_at : IsStrictlyIncreasing (headers_of loops) → (i : ℕ) (l : NaturalLoop) → IsEntryAt loops i l → headed_by l.header prices ≡ Some (price_at l i)
    headed_at rise i l at =
        let mine = to_priced i l at in
        one_headed prices l.header (price_at l i) (i, mine.0, mine.1) refl (λ k has same.
        let r = from_priced k has in
        let place : r.0 ≡ i = same_place loops rise r.0 i r.1 l r.2 at (ap (λ (z : PricedLoop). z.certified.header) (sym r.3) ∙ same) in
        r.3 ∙ ap (λ (z : NaturalLoop). price_at z r.0) (same_at loops r.0 i r.1 l r.2 at place) ∙ ap (λ (j : ℕ). price_at l j) place)

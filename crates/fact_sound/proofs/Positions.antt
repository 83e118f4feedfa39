-- Visits as steps over their positions: each position is a node of its own, and is charged what the visit there is.
use Rattle.std.proofs.Common.{◌≡◌, ℕ, zero, suc, ◌+◌, ◌≤◌, true, false, List, [], ◌∷◌, Option, Some, None, refl, sym, ap, subst, arith}
use Rattle.std.proofs.lemmas.List.Sums.{sum_by-cons}
use Rattle.method_cache.specs.Contents.{Cache}
use Rattle.bound_laws.specs.Soundness.Charges.{Charges, AreCharged, charge_of}
use Rattle.bound_laws.specs.Soundness.Stays.{IsCoveredIn, IsCovered, EntersNone, Stays, StaysArePaid}
use Rattle.bound_laws.specs.Soundness.Stays.Stays.{last, goes, raises, handles, returns, drops}
use Rattle.fact_sound.specs.Visits.{Visit, more_charged, visited, more_of, Visits, VisitsArePaid}
use Rattle.fact_sound.specs.Visits.Visits.{last as last_visit, goes as visit_goes, raises as visit_raises, handles as visit_handles, returns as visit_returns, drops as visit_drops}

-- ---- lists of visits by position

abbrev visit_at : List Visit → ℕ → Visit
visit_at [] i = record { node = 0; more = 0 }
visit_at (x ∷ xs) zero = x
visit_at (x ∷ xs) (suc i) = visit_at xs i

-- from this position on these are the visits
abbrev AreFrom : List Visit → (i : ℕ) → List Visit → Type 0
AreFrom xs i [] = Unit {0}
AreFrom xs i (v ∷ vs) = (visit_at xs i ≡ v) × AreFrom xs (suc i) vs

one_on : (x : Visit) (xs : List Visit) (i : ℕ) (vs : List Visit) → AreFrom xs i vs → AreFrom (x ∷ xs) (suc i) vs
one_on x xs i [] are = tt
one_on x xs i (v ∷ vs) are = (are.0, one_on x xs (suc i) vs are.1)

from_first : (xs : List Visit) → AreFrom xs 0 xs
from_first [] = tt
from_first (x ∷ xs) = (refl, one_on x xs 0 xs (from_first xs))

-- the positions of these visits, from this one on
abbrev places_from : (i : ℕ) → List Visit → List ℕ
places_from i [] = []
places_from i (v ∷ vs) = i ∷ places_from (suc i) vs

module _ (k : Charges) (xs : List Visit) where
  abbrev at : ℕ → Visit
  at i = visit_at xs i

  -- a position is charged what its visit is
  abbrev positions : Charges
  positions = record {
    words = k.words;
    wait = k.wait;
    blocks = k.blocks;
    block_words = k.block_words;
    own = k.own;
    node = λ i. k.node (at i).node + (at i).more;
    edge = λ i j. k.edge (at i).node (at j).node;
    is_raise = λ i. k.is_raise (at i).node;
    region_of = λ i. k.region_of (at i).node;
    methods = k.methods;
    fee = k.fee;
  }

  are_charged : AreCharged k → AreCharged positions
  are_charged h = record {
    own_within = λ l i e. h.own_within l (at i).node e;
    fits = λ l i e. h.fits l (at i).node e;
    covers = λ l i e. h.covers l (at i).node e;
    enters = λ l i j e outside. h.enters l (at i).node (at j).node e outside;
  }

  -- ---- steps

  covered_in : (o : Option ℕ) (i n : ℕ) (ls : List ℕ) (c : Cache) → IsCoveredIn (more_charged k (at i).more) o (at i).node n ls c → IsCoveredIn positions o i n ls c
  covered_in None i n ls c h = h
  covered_in (Some l) i n ls c h = h

  -- a call at a position is covered as it is at the visit
  covered_at : (i : ℕ) (u : Visit) (n : ℕ) (ls : List ℕ) (c : Cache) → at i ≡ u → IsCovered (more_charged k u.more) u.node n ls c → IsCovered positions i n ls c
  covered_at i u n ls c is h = covered_in (k.region_of (at i).node) i n ls c (subst (λ (x : Visit). IsCovered (more_charged k x.more) x.node n ls c) (sym is) h)

  by_position : {c : Cache} {u : Visit} {vs : List Visit} {cycles : ℕ} → Visits k c u vs cycles → (i : ℕ) → at i ≡ u → AreFrom xs (suc i) vs → Stays positions c i (places_from (suc i) vs) cycles
  by_position (last_visit {c} {u} n few) i is are = last n (subst (λ (x : Visit). n ≤ k.node x.node + x.more) (sym is) few)
  by_position (visit_goes {c} {u} {v} {cycles} {vs} n from to few rest) i is are =
      goes n (subst (λ (x : Visit). k.is_raise x.node ≡ false) (sym is) from) (subst (λ (x : Visit). k.is_raise x.node ≡ false) (sym are.0) to)
      (subst (λ (x : Visit). n ≤ k.node x.node + x.more) (sym is) few) (by_position rest (suc i) are.0 are.1)
  by_position (visit_raises {c} {u} {v} {cycles} {vs} n from to none few cached rest) i is are =
      raises n (subst (λ (x : Visit). k.is_raise x.node ≡ false) (sym is) from) (subst (λ (x : Visit). k.is_raise x.node ≡ true) (sym are.0) to)
      (subst (λ (x : Visit). EntersNone k x.node (at (suc i)).node) (sym is) (subst (λ (y : Visit). EntersNone k u.node y.node) (sym are.0) none))
      (subst (λ (x : Visit). n ≤ k.node x.node + x.more) (sym is) few) cached (by_position rest (suc i) are.0 are.1)
  by_position (visit_handles {c} {u} {v} {cycles} {vs} n from to few rest) i is are =
      handles n (subst (λ (x : Visit). k.is_raise x.node ≡ true) (sym is) from) (subst (λ (x : Visit). k.is_raise x.node ≡ false) (sym are.0) to)
      (subst (λ (x : Visit). n ≤ k.node x.node + x.more) (sym is) few) (by_position rest (suc i) are.0 are.1)
  by_position (visit_returns {c} {u} {v} {cycles} {vs} n ls from to covered rest) i is are =
      returns n ls (subst (λ (x : Visit). k.is_raise x.node ≡ false) (sym is) from) (subst (λ (x : Visit). k.is_raise x.node ≡ false) (sym are.0) to)
      (covered_at i u n ls c is covered) (by_position rest (suc i) are.0 are.1)
  by_position (visit_drops {c} {u} {v} {cycles} {vs} n ls from to none covered rest) i is are =
      drops n ls (subst (λ (x : Visit). k.is_raise x.node ≡ false) (sym is) from) (subst (λ (x : Visit). k.is_raise x.node ≡ true) (sym are.0) to)
      (subst (λ (x : Visit). EntersNone k x.node (at (suc i)).node) (sym is) (subst (λ (y : Visit). EntersNone k u.node y.node) (sym are.0) none))
      (covered_at i u n ls c is covered) (by_position rest (suc i) are.0 are.1)

  -- ---- charges

  same_charge : (i : ℕ) (u : Visit) (vs : List Visit) → at i ≡ u → AreFrom xs (suc i) vs → charge_of positions i (places_from (suc i) vs) ≡ charge_of k u.node (visited vs) + more_of (u ∷ vs)
  same_charge i u [] is are =
      let here = ap (λ (x : Visit). k.node x.node + x.more) is in
      let sum = sum_by-cons (λ (x : Visit). x.more) u [] in
      omega arith
  same_charge i u (v ∷ vs) is are =
      let here = ap (λ (x : Visit). k.node x.node + x.more) is in
      let first = ap (λ (x : Visit). k.edge x.node (at (suc i)).node) is in
      let second = ap (λ (y : Visit). k.edge u.node y.node) are.0 in
      let sum = sum_by-cons (λ (x : Visit). x.more) u (v ∷ vs) in
      let rest = same_charge (suc i) v vs are.0 are.1 in
      omega arith

pub visits_are_paid : StaysArePaid → VisitsArePaid
visits_are_paid paid k charged c u cycles vs sizes instruction visits =
    let xs = u ∷ vs in
    let all = from_first xs in
    let stays = by_position k xs visits 0 all.0 all.1 in
    let few = paid (positions k xs) (are_charged k xs charged) c 0 cycles (places_from 1 vs) (record { blocks = sizes.blocks; block_words = sizes.block_words }) instruction stays in
    let same = same_charge k xs 0 u vs all.0 all.1 in
    omega arith

-- The members of a loop but its header, in the order, and where the edges between them lead.
use Rattle.std.proofs.Common.{◌≡◌, ◌≢◌, ℕ, ◌<◌, ◌≤◌, eqb, not, List, [], length, get_or, take, All, Contains, sym, ap, ◌∙◌, subst, inl, inr, arith}
use Rattle.std.proofs.lemmas.Bool.{cases_lt, cases_order, eq-eqb, ne_eqb, both_ways}
use Rattle.std.proofs.lemmas.List.{get_or-map, get_or_default, length-map, length-take-le, get_or-take}
use Rattle.std.proofs.lemmas.List.Elements.{All-get_or, All-from_get_or, Contains-get_or}
use Rattle.lists.specs.Members.{rising_all, rising_pair}
use Rattle.loop_nest.proofs.Elements.{filter_contains, from_filter}
use Rattle.path_solver.specs.Ordering.{AreApart}
use Rattle.path_solver.specs.Distances.{LeadForward, others_of, ArePicked}
use Rattle.path_solver.proofs.Order.{taken_at}

module _ (order members nodes : List ℕ) (src : ℕ → List ℕ) (apart : AreApart order) (before : (p j : ℕ) → j < length order → Contains (src (get_or order j 0)) p → Contains (take j order) p) (h : ArePicked order members nodes) where
  long : length nodes ≡ length h.ranks
  long = ap length h.are ∙ length-map h.ranks (λ (r : ℕ). get_or order r 0)

  at : (j : ℕ) → j < length nodes → get_or nodes j 0 ≡ get_or order (get_or h.ranks j 0) 0
  at j lt =
      let l = long in
      ap (λ (ls : List ℕ). get_or ls j 0) h.are ∙ get_or-map (λ (r : ℕ). get_or order r 0) h.ranks j 0 0 (let e : j < length h.ranks = omega arith in e)

  rank_within : (j : ℕ) → j < length nodes → get_or h.ranks j 0 < length order
  rank_within j lt = let l = long in All-get_or (λ r. r < length order) h.ranks j 0 (let e : j < length h.ranks = omega arith in e) h.within

  one_place : (i j : ℕ) → i < length order → j < length order → get_or order i 0 ≡ get_or order j 0 → i ≡ j
  one_place i j a b same =
      elim (cases_order i j) [
        | inl eq ↦ eq
        | inr ne ↦ elim ne [ inl lt ↦ absurd (apart i j lt b same) | inr gt ↦ absurd (apart j i gt a (sym same)) ]
      ]

  -- what stands earlier in the order stands earlier among these nodes
  earlier : (m j : ℕ) → m < length nodes → j < length nodes → get_or h.ranks m 0 < get_or h.ranks j 0 → m < j
  earlier m j a b less =
      elim (cases_lt m j) [
        | inl lt ↦ lt
        | inr ge ↦ let l = long in let up = rising_all h.ranks h.rising j m ge (let e : m < length h.ranks = omega arith in e) in absurd (omega arith)
      ]

  pub leads_forward : LeadForward src nodes
  leads_forward p j lt edge has =
      let P : ℕ → Type 0 = λ z. Contains (src z) p in
      let r = rank_within j lt in
      let t = taken_at order (get_or h.ranks j 0) p (before p (get_or h.ranks j 0) r (subst P (at j lt) edge)) in
      let m = has.0 in
      let mine : get_or nodes m 0 ≡ p = get_or_default nodes m 0 p has.1 ∙ has.2 in
      let same : t.0 ≡ get_or h.ranks m 0 = one_place t.0 (get_or h.ranks m 0) t.2 (rank_within m has.1) (t.3 ∙ sym mine ∙ at m has.1) in
      let less = t.1 in
      let low : m < j = earlier m j has.1 lt (omega arith) in
      (m, omega (arith, length-take-le j nodes (let e : j ≤ length nodes = omega arith in e)), get_or-take j nodes m p low ∙ has.2)

pub picked_apart : (order members nodes : List ℕ) → AreApart order → ArePicked order members nodes → AreApart nodes
picked_apart order members nodes apart h i j lt below same =
    let src : ℕ → List ℕ = λ u. [] in
    let l : length nodes ≡ length h.ranks = ap length h.are ∙ length-map h.ranks (λ (r : ℕ). get_or order r 0) in
    let none : (p j : ℕ) → j < length order → Contains {X = ℕ} [] p → Contains (take j order) p = λ p j lt c. let below = c.1 in absurd (omega arith) in
    let here : i < length nodes = omega arith in
    let e = one_place order members nodes src apart none h (get_or h.ranks i 0) (get_or h.ranks j 0) (rank_within order members nodes src apart none h i here) (rank_within order members nodes src apart none h j below)
    (sym (at order members nodes src apart none h i here) ∙ same ∙ at order members nodes src apart none h j below) in
    let up = rising_pair h.ranks h.rising i j lt (let x : j < length h.ranks = omega arith in x) in
    omega arith

pub from_others : (members : List ℕ) (h u : ℕ) → Contains (others_of members h) u → Contains members u × (u ≢ h)
from_others members h u has =
    let r = from_filter (λ z. not (eqb z h)) members u has in
    (r.0, λ e. both_ways (not (eqb u h)) (ap not (eq-eqb u h e)) r.1)

pub to_others : (members : List ℕ) (h u : ℕ) → Contains members u → u ≢ h → Contains (others_of members h) u
to_others members h u has other = filter_contains (λ z. not (eqb z h)) members u (ap not (ne_eqb u h other)) has

pub repick : (order order' members nodes : List ℕ) → order' ≡ order → ArePicked order' members nodes → ArePicked order members nodes
repick order order' members nodes a h = let P : List ℕ → Type 0 = λ us. ArePicked us members nodes in subst P a h

pub all_from : (n : ℕ) (us : List ℕ) → ((u : ℕ) → Contains us u → u < n) → All (λ u. u < n) us
all_from n us all = All-from_get_or (λ u. u < n) us 0 (λ i lt. all (get_or us i 0) (Contains-get_or us i 0 lt))

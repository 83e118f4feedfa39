-- The order of the flagged nodes as it grows.
use Rattle.std.proofs.Common.{◌≡◌, ℕ, zero, suc, ◌+◌, ◌<◌, ◌≤◌, ◌⊎◌, ◌↔◌, Bool, false, List, [], ◌∷◌, ◌++◌, length, get_or, take, map, count_by, All, Contains, sym, ap, ◌∙◌, subst, inl, inr, arith}
use Rattle.loop_nest.specs.Digraph.{sources_of, AreArrivals}
use Rattle.std.proofs.lemmas.Bool.{cases_eq, cases_lt, cases_Bool}
use Rattle.std.proofs.lemmas.List.{get_or_append_left, get_or_past, take_more, take_all, take-append-le}
use Rattle.std.proofs.lemmas.List.Elements.{All-map, All-from_get_or, Contains-get_or}
use Rattle.lists.specs.Members.{cons_cases, nil_contains, has_or_not}
use Rattle.loop_nest.specs.Walks.{Walk}
use Rattle.loop_nest.specs.Walks.Walk.{stay, along}
use Rattle.section_check.specs.Bounded.{holds}
use Rattle.section_check.proofs.Elements.{contains_from_holds}
use Rattle.path_solver.specs.Reaching.{IsFlagged}
use Rattle.path_solver.specs.Ordering.{AreApart, AreStarts, graph_of, IsForwardOrder}
use Rattle.path_solver.proofs.Apart.{apart_cons, few_apart}
use Rattle.path_solver.proofs.CountingDown.{times}
use Rattle.path_solver.proofs.Order.{flip, awaits, times_targets, split, count_start, all_done, not_done, take_grows, taken_at}

-- the first nodes of the order were counted off, and each node for which no edge is waited for stands in it
pub record IsOrdering (flags : List Bool) (es : List (ℕ × ℕ)) (i : ℕ) (waiting order : List ℕ) : Type 0 where
  pub long : length waiting ≡ length flags
  pub waits : (v : ℕ) → get_or waiting v 0 ≡ count_by (awaits (take i order) v) es
  pub each : (v : ℕ) → Contains order v ↔ ((v < length flags) × IsFlagged flags v × (get_or waiting v 0 ≡ 0))
  pub apart : AreApart order
  pub before : (p j : ℕ) → j < length order → Contains es (p, get_or order j 0) → Contains (take j order) p

pub flagged_below : (flags : List Bool) (u : ℕ) → IsFlagged flags u → u < length flags
flagged_below flags u is =
    elim (cases_lt u (length flags)) [
      | inl low ↦ low
      | inr high ↦ let e : get_or flags u false ≡ false = get_or_past flags u false high in let bad : ⊥ = cc in absurd bad
    ]

pub ordering_start : (flags : List Bool) (es : List (ℕ × ℕ)) (w us : List ℕ) → AreArrivals es (length flags) w → AreStarts flags w (length flags) us → IsOrdering flags es 0 w us
ordering_start flags es w us counts starts = record {
  long = counts.long;
  waits = λ v. counts.each v ∙ count_start v es;
  each = starts.each;
  apart = starts.apart;
  before = λ p j lt edge.
      let v = get_or us j 0 in
      let r = (starts.each v).0 (Contains-get_or us j 0 lt) in
      absurd (nil_contains p (all_done [] v p es (sym (counts.each v ∙ count_start v es) ∙ r.2) edge));
}

-- past the end of the order nothing changes
pub ordering_idle : (flags : List Bool) (es : List (ℕ × ℕ)) (i : ℕ) (w us : List ℕ) → length us ≤ i → IsOrdering flags es i w us → IsOrdering flags es (i + 1) w us
ordering_idle flags es i w us end h = record {
  long = h.long;
  waits = λ v. h.waits v ∙ ap (λ (ts : List ℕ). count_by (awaits ts v) es) (take_all i us end ∙ sym (take_all (i + 1) us (omega arith)));
  each = h.each;
  apart = h.apart;
  before = h.before;
}

module _ (flags : List Bool) (es : List (ℕ × ℕ)) (i : ℕ) (w us : List ℕ) (lt : i < length us) (h : IsOrdering flags es i w us) where
  abbrev here : ℕ
  here = get_or us i 0

  fresh : holds (take i us) here ≡ false
  fresh =
      elim (cases_Bool (holds (take i us) here)) [
        | inl yes' ↦ let r = taken_at us i here (contains_from_holds (take i us) here yes') in absurd (h.apart r.0 i r.1 lt r.3)
        | inr no' ↦ no'
      ]

  abbrev targets : List ℕ
  targets = sources_of (map flip es) here

  pub enough : (v : ℕ) → times v targets ≤ get_or w v 0
  enough v =
      let a = times_targets es here v in
      let b = split (take i us) here v es fresh in
      let c = h.waits v in
      omega arith

  module _ (into : (u v : ℕ) → Contains es (u, v) → IsFlagged flags v) (w' us' : List ℕ) (long : length w' ≡ length w) (counts : (v : ℕ) → get_or w' v 0 + times v targets ≡ get_or w v 0) (added : (released : List ℕ) × (us' ≡ us ++ released)) (each : (v : ℕ) → Contains us' v ↔ (Contains us v ⊎ (Contains targets v × (get_or w' v 0 ≡ 0)))) (apart : AreApart us') (edge_of : (v : ℕ) → Contains targets v → Contains es (here, v)) (target_of : (v : ℕ) → 0 < times v targets → Contains targets v) where
    kept : (j : ℕ) → j ≤ length us → take j us' ≡ take j us
    kept j le = ap (take j) added.1 ∙ take-append-le j us added.0 le

    first : take (i + 1) us' ≡ take i us ++ here ∷ []
    first = kept (i + 1) (omega arith) ∙ take_more us i 0 lt

    now_waits : (v : ℕ) → get_or w' v 0 ≡ count_by (awaits (take (i + 1) us') v) es
    now_waits v =
        let a = times_targets es here v in
        let b = split (take i us) here v es fresh in
        let c = h.waits v in
        let d = counts v in
        let e : count_by (awaits (take (i + 1) us') v) es ≡ count_by (awaits (take i us ++ here ∷ []) v) es = ap (λ (ts : List ℕ). count_by (awaits ts v) es) first in
        omega arith

    found : (v : ℕ) → Contains us' v → (v < length flags) × IsFlagged flags v × (get_or w' v 0 ≡ 0)
    found v has =
        elim ((each v).0 has) [
          | inl old ↦ let r = (h.each v).0 old in let z = r.2 in let c = counts v in (r.0, r.1, omega arith)
          | inr r ↦ let flag = into here v (edge_of v r.0) in (flagged_below flags v flag, flag, r.1)
        ]

    pub ordering_more : IsOrdering flags es (i + 1) w' us'
    ordering_more = record {
      long = long ∙ h.long;
      waits = now_waits;
      each = λ v. (
        found v,
        λ r.
            let z = r.2 in
            let c = counts v in
            elim (cases_eq (get_or w v 0) 0) [
              | inl none ↦ (each v).1 (inl ((h.each v).1 (r.0, r.1, none)))
              | inr some ↦ (each v).1 (inr (target_of v (omega arith), r.2))
            ],
      );
      apart = apart;
      before = λ p j below edge.
          elim (cases_lt j (i + 1)) [
            | inl low ↦
                let inside : j < length us = omega arith in
                let same : get_or us' j 0 ≡ get_or us j 0 = ap (λ (ls : List ℕ). get_or ls j 0) added.1 ∙ get_or_append_left us added.0 0 j inside in
                let P : ℕ → Type 0 = λ z. Contains es (p, z) in
                let Q : List ℕ → Type 0 = λ ts. Contains ts p in
                subst Q (sym (kept j (omega arith))) (h.before p j inside (subst P same edge))
            | inr high ↦
                let v = get_or us' j 0 in
                let r = found v (Contains-get_or us' j 0 below) in
                take_grows us' (i + 1) j p high (all_done (take (i + 1) us') v p es (sym (now_waits v) ∙ r.2) edge)
          ];
    }

-- the part of a walk up to a node
module _ (n : ℕ) (es : List (ℕ × ℕ)) (p : ℕ) where
  walk_to : {u v : ℕ} {ns : List ℕ} → Walk (graph_of n es) u v ns → Contains ns p → (ms : List ℕ) × Walk (graph_of n es) u p ms
  walk_to (stay {u}) has =
      elim (cons_cases u p [] has) [
        | inl same ↦ let P : ℕ → Type 0 = λ z. Walk (graph_of n es) u z (u ∷ []) in (u ∷ [], subst P same stay)
        | inr there ↦ absurd (nil_contains p there)
      ]
  walk_to (along {u} {v} {w} {ns} e t) has =
      elim (cons_cases u p ns has) [
        | inl same ↦ let P : ℕ → Type 0 = λ z. Walk (graph_of n es) u z (u ∷ []) in (u ∷ [], subst P same stay)
        | inr there ↦ let r = walk_to t there in (u ∷ r.0, along e r.1)
      ]

pub sources_below : (flags : List Bool) (es : List (ℕ × ℕ)) → ((u v : ℕ) → Contains es (u, v) → IsFlagged flags u) → All (λ (e : ℕ × ℕ). e.1 < length flags) (map flip es)
sources_below flags es from =
    All-map (λ (e : ℕ × ℕ). e.1 < length flags) flip es (All-from_get_or (λ (e : ℕ × ℕ). e.0 < length flags) es (0, 0) (λ i lt.
    flagged_below flags (get_or es i (0, 0)).0 (from (get_or es i (0, 0)).0 (get_or es i (0, 0)).1 (Contains-get_or es i (0, 0) lt))))

pub targets_below : (flags : List Bool) (es : List (ℕ × ℕ)) → ((u v : ℕ) → Contains es (u, v) → IsFlagged flags v) → All (λ (e : ℕ × ℕ). e.1 < length flags) es
targets_below flags es into =
    All-from_get_or (λ (e : ℕ × ℕ). e.1 < length flags) es (0, 0) (λ i lt.
    flagged_below flags (get_or es i (0, 0)).1 (into (get_or es i (0, 0)).0 (get_or es i (0, 0)).1 (Contains-get_or es i (0, 0) lt)))

module _ (flags : List Bool) (es : List (ℕ × ℕ)) (i : ℕ) (w us : List ℕ) (all : length flags ≤ i) (h : IsOrdering flags es i w us) (from : (u v : ℕ) → Contains es (u, v) → IsFlagged flags u) (acyclic : (u v : ℕ) (ns : List ℕ) → Contains es (u, v) → Walk (graph_of (length flags) es) v u ns → ⊥) where
  few : length us ≤ length flags
  few = few_apart us (length flags) h.apart (λ x has. ((h.each x).0 has).0)

  whole : take i us ≡ us
  whole = let f = few in take_all i us (omega arith)

  -- a flagged node that isn't in the order is led to by another such node
  stuck : (u : ℕ) → IsFlagged flags u → (Contains us u → ⊥) → (p : ℕ) × Contains es (p, u) × (Contains us p → ⊥)
  stuck u flag out =
      elim (cases_eq (get_or w u 0) 0) [
        | inl none ↦ absurd (out ((h.each u).1 (flagged_below flags u flag, flag, none)))
        | inr some ↦
            let c : get_or w u 0 ≡ count_by (awaits us u) es = h.waits u ∙ ap (λ (ts : List ℕ). count_by (awaits ts u) es) whole in
            not_done us u es (omega arith)
      ]

  climb : (fuel u last : ℕ) (ns : List ℕ) → Walk (graph_of (length flags) es) u last ns → AreApart ns → ((x : ℕ) → Contains ns x → x < length flags) → IsFlagged flags u → (Contains us u → ⊥) → length ns + fuel ≡ length flags + 1 → ⊥
  climb zero u last ns t apart within flag out long = let f = few_apart ns (length flags) apart within in omega arith
  climb (suc fuel) u last ns t apart within flag out long =
      let r = stuck u flag out in
      let p = r.0 in
      let flag' = from p u r.1 in
      elim (has_or_not ns p) [
        | inl back ↦ let m = walk_to (length flags) es p t back in acyclic p u m.0 r.1 m.1
        | inr other ↦
            climb fuel p last (p ∷ ns) (along r.1 t) (apart_cons p ns apart other) (λ x has.
            elim (cons_cases p x ns has) [
              | inl same ↦ let P : ℕ → Type 0 = λ z. z < length flags in subst P same (flagged_below flags p flag')
              | inr there ↦ within x there
            ]) flag' r.2 (omega arith)
      ]

  complete : (u : ℕ) → IsFlagged flags u → Contains us u
  complete u flag =
      elim (has_or_not us u) [
        | inl has ↦ has
        | inr out ↦
            absurd (climb (length flags) u u (u ∷ []) stay (apart_cons u [] (λ i j lt below same. omega arith) (λ c. nil_contains u c)) (λ x has.
            elim (cons_cases u x [] has) [
              | inl same ↦ let P : ℕ → Type 0 = λ z. z < length flags in subst P same (flagged_below flags u flag)
              | inr there ↦ absurd (nil_contains x there)
            ]) flag out (omega arith))
      ]

  pub ordering_ends : IsForwardOrder flags es us
  ordering_ends = record {
    each = λ u. (λ has. ((h.each u).0 has).1, complete u);
    apart = h.apart;
    before = h.before;
  }

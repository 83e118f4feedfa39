-- Where among the edges those from a node stand.
use Rattle.std.proofs.Common.{◌≡◌, ◌≢◌, ℕ, ◌+◌, ◌-◌, ◌<◌, ◌≤◌, Bool, List, ◌++◌, length, get_or, set, drop, filter, replicate, Contains, refl, sym, ap, ◌∙◌, subst, inl, inr, arith}
use Rattle.std.specs.Prelude.{◌==◌, if◌then◌else◌, slice_range}
use Rattle.std.proofs.lemmas.Bool.{cases_eq, eq-eqb, eqb-true, ne_eqb}
use Rattle.std.proofs.lemmas.List.{length-drop, length-map, length-take-le, get_or-drop, get_or-take, get_or-set_same, get_or-set_other, get_or_default}
use Rattle.std.proofs.lemmas.List.Elements.{All-get_or, All-replicate, All-set, All-weaker}
use Rattle.lists.specs.Members.{map_contains}
use Rattle.loop_nest.specs.Digraph.{targets_of}
use Rattle.loop_nest.specs.Entered.{edge_at}
use Rattle.loop_nest.proofs.Elements.{from_map, from_filter, filter_at_most, filter_contains}
use Rattle.flow_graph.specs.Reach.{ArePushed, AreSpans, AreSpansBelow, span_with}

-- ---- the spans, edge by edge

pub spans_first : (es : List (ℕ × ℕ)) (n : ℕ) → AreSpansBelow es 0 (replicate n (0, 0))
spans_first es n = record {
  ordered = All-replicate (λ (s : ℕ × ℕ). s.0 ≤ s.1) n (0, 0) (omega arith);
  within = All-replicate (λ (s : ℕ × ℕ). s.1 ≤ 0) n (0, 0) (omega arith);
  each = λ k lt. absurd (omega arith);
}

abbrev first_of : (first end place : ℕ) → ℕ
first_of a b i = if b == 0 then i else a

first_low : (a b i : ℕ) → a ≤ b → b ≤ i → first_of a b i ≤ i
first_low a b i ordered within =
    elim (cases_eq b 0) [
      | inl same ↦ let is : first_of a b i ≡ i = ap (λ (t : Bool). if t then i else a) (eq-eqb b 0 same) in omega arith
      | inr other ↦ let is : first_of a b i ≡ a = ap (λ (t : Bool). if t then i else a) (ne_eqb b 0 other) in omega arith
    ]

first_kept : (a b i k : ℕ) → a ≤ k → k < b → first_of a b i ≤ k
first_kept a b i k low lt =
    let other : b ≢ 0 = λ same. absurd (omega arith) in
    let is : first_of a b i ≡ a = ap (λ (t : Bool). if t then i else a) (ne_eqb b 0 other) in
    omega arith

abbrev IsIn : ℕ → ℕ × ℕ → Type 0
IsIn k s = (s.0 ≤ k) × (k < s.1)

pub spans_more : (es spans : List (ℕ × ℕ)) (i : ℕ) → AreSpansBelow es i spans → (edge_at es i).0 < length spans → AreSpansBelow es (i + 1) (set spans (edge_at es i).0 (span_with (edge_at spans (edge_at es i).0) i))
spans_more es spans i s lt =
    let u = (edge_at es i).0 in
    let old = edge_at spans u in
    let new' = span_with old i in
    let none : ℕ × ℕ = (0, 0) in
    let ordered : old.0 ≤ old.1 = All-get_or (λ (x : ℕ × ℕ). x.0 ≤ x.1) spans u none lt s.ordered in
    let within : old.1 ≤ i = All-get_or (λ (x : ℕ × ℕ). x.1 ≤ i) spans u none lt s.within in
    let low : first_of old.0 old.1 i ≤ i = first_low old.0 old.1 i ordered within in
    record {
      ordered = All-set (λ (x : ℕ × ℕ). x.0 ≤ x.1) spans u new' (omega arith) s.ordered;
      within = All-set (λ (x : ℕ × ℕ). x.1 ≤ i + 1) spans u new' (omega arith) (All-weaker (λ (x : ℕ × ℕ). x.1 ≤ i) (λ (x : ℕ × ℕ). x.1 ≤ i + 1) (λ x le. omega arith) spans s.within);
      each = λ k below.
          let v = (edge_at es k).0 in
          elim (cases_eq v u) [
            | inl same ↦
                let K : ℕ → Type 0 = λ w. IsIn k (edge_at (set spans u new') w) in
                let is : edge_at (set spans u new') u ≡ new' = get_or-set_same spans u new' none lt in
                subst K (sym same) (subst (IsIn k) (sym is) (elim (cases_eq k i) [
                  | inl now ↦ (omega arith, omega arith)
                  | inr before ↦
                      let O : ℕ → Type 0 = λ w. IsIn k (edge_at spans w) in
                      let was : IsIn k old = subst O same (s.each k (omega arith)) in
                      (first_kept old.0 old.1 i k was.0 was.1, omega arith)
                ]))
            | inr other ↦
                let before : k < i = (elim (cases_eq k i) [
                  | inl now ↦ absurd (other (ap (λ (j : ℕ). (edge_at es j).0) now))
                  | inr not_now ↦ omega arith
                ]) in
                subst (IsIn k) (sym (get_or-set_other spans u v new' none other)) (s.each k before)
          ];
    }

pub spans_all : (es spans : List (ℕ × ℕ)) (i : ℕ) → i ≡ length es → AreSpansBelow es i spans → AreSpans es spans
spans_all es spans i same s = subst (λ (n : ℕ). AreSpansBelow es n spans) same s

-- ---- the targets of some edges

targets_has : (es : List (ℕ × ℕ)) (u v : ℕ) → Contains es (u, v) → Contains (targets_of es u) v
targets_has es u v has =
    map_contains (λ (e : ℕ × ℕ). e.1) (filter (λ (e : ℕ × ℕ). e.0 == u) es) (u, v) (filter_contains (λ (e : ℕ × ℕ). e.0 == u) es (u, v) (eq-eqb u u refl) has)

from_targets : (es : List (ℕ × ℕ)) (u v : ℕ) → Contains (targets_of es u) v → Contains es (u, v)
from_targets es u v has =
    let r = from_map (λ (e : ℕ × ℕ). e.1) (filter (λ (e : ℕ × ℕ). e.0 == u) es) v has in
    let k = from_filter (λ (e : ℕ × ℕ). e.0 == u) es r.0 r.1 in
    let P : ℕ → Type 0 = λ z. Contains es (r.0.0, z) in
    let Q : ℕ → Type 0 = λ z. Contains es (z, v) in
    subst Q (eqb-true r.0.0 u k.1) (subst P r.2 k.0)

few_targets : (es : List (ℕ × ℕ)) (u : ℕ) → length (targets_of es u) ≤ length es
few_targets es u =
    let e = length-map (filter (λ (e : ℕ × ℕ). e.0 == u) es) (λ e. e.1) in
    let f = filter_at_most (λ (e : ℕ × ℕ). e.0 == u) es in
    omega arith

-- ---- the edges of a part

part_length : (es : List (ℕ × ℕ)) (a b : ℕ) → a ≤ b → b ≤ length es → length (slice_range es a b) ≡ b - a
part_length es a b le within =
    let left = length-drop a es in
    length-take-le (b - a) (drop a es) (omega arith)

part_has : (es : List (ℕ × ℕ)) (a b k : ℕ) (e : ℕ × ℕ) → a ≤ k → k < b → b ≤ length es → get_or es k e ≡ e → Contains (slice_range es a b) e
part_has es a b k e low lt within at =
    let long = part_length es a b (omega arith) within in
    let place : a + (k - a) ≡ k = omega arith in (
      k - a,
      omega arith,
      get_or-take (b - a) (drop a es) (k - a) e (omega arith) ∙ get_or-drop a es (k - a) e ∙ ap (λ (j : ℕ). get_or es j e) place ∙ at,
    )

from_part : (es : List (ℕ × ℕ)) (a b : ℕ) (e : ℕ × ℕ) → a ≤ b → b ≤ length es → Contains (slice_range es a b) e → Contains es e
from_part es a b e le within has =
    let long = part_length es a b le within in
    let below = has.1 in (
      a + has.0,
      omega arith,
      sym (get_or-drop a es has.0 e) ∙ sym (get_or-take (b - a) (drop a es) has.0 e (omega arith)) ∙ has.2,
    )

-- ---- what a node's span has

pub span_ordered : (es spans : List (ℕ × ℕ)) (u : ℕ) → AreSpans es spans → u < length spans → (edge_at spans u).0 ≤ (edge_at spans u).1
span_ordered es spans u s lt = All-get_or (λ (x : ℕ × ℕ). x.0 ≤ x.1) spans u (0, 0) lt s.ordered

pub span_within : (es spans : List (ℕ × ℕ)) (u : ℕ) → AreSpans es spans → u < length spans → (edge_at spans u).1 ≤ length es
span_within es spans u s lt = All-get_or (λ (x : ℕ × ℕ). x.1 ≤ length es) spans u (0, 0) lt s.within

pub are_pushed : (es spans : List (ℕ × ℕ)) (u : ℕ) (old new : List ℕ) → AreSpans es spans → u < length spans → new ≡ old ++ targets_of (slice_range es (edge_at spans u).0 (edge_at spans u).1) u → ArePushed es u old new
are_pushed es spans u old new s lt is =
    let a = (edge_at spans u).0 in
    let b = (edge_at spans u).1 in
    let part = slice_range es a b in
    let ordered = span_ordered es spans u s lt in
    let within = span_within es spans u s lt in
    let long = part_length es a b ordered within in
    let few = few_targets part u in
    record {
      next = targets_of part u;
      is = is;
      few = omega arith;
      each = λ v. (
        λ has. from_part es a b (u, v) ordered within (from_targets part u v has),
        λ has.
            let none : ℕ × ℕ = (0, 0) in
            let at : edge_at es has.0 ≡ (u, v) = get_or_default es has.0 none (u, v) has.1 ∙ has.2 in
            let K : ℕ × ℕ → Type 0 = λ e. IsIn has.0 (edge_at spans e.0) in
            let in' : IsIn has.0 (edge_at spans u) = subst K at (s.each has.0 has.1) in
            targets_has part u v (part_has es a b has.0 (u, v) in'.0 in'.1 within has.2),
      );
    }

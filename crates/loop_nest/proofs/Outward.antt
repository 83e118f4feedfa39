-- The search forwards from node 0, step by step.
use Rattle.std.proofs.Common.{◌≡◌, ◌≢◌, ℕ, ◌<◌, ◌⊎◌, Bool, true, false, not, List, [], ◌∷◌, ◌++◌, length, get_or, set, filter, Contains, refl, sym, ap, ◌∙◌, subst, inl, inr, arith}
use Rattle.std.proofs.lemmas.Bool.{cases_eq, cases_lt, both_ways}
use Rattle.std.proofs.lemmas.List.{length-set, get_or-set_same, get_or-set_other, get_or_append_left, get_or_push, length_push}
use Rattle.std.proofs.lemmas.List.Elements.{All-contains, All-append, All-push, All-from_get_or, Contains-append_left, Contains-append_right, Contains-push, Contains-push_cases, Contains-append_cases, Contains-get_or}
use Rattle.lists.specs.Members.{at_head, nil_contains, cons_cases}
use Rattle.loop_nest.specs.Digraph.{Digraph, Edge, IsDigraph, targets_of}
use Rattle.loop_nest.specs.Walks.{Walk, Dominates}
use Rattle.loop_nest.specs.Walks.Walk.{stay, along}
use Rattle.loop_nest.specs.Order.{AreDominatorsFirst, IsOutward}
use Rattle.loop_nest.proofs.Around.{Around, around_from, leads_around, joined_by, not_around}
use Rattle.loop_nest.proofs.Around.Around.{rest}
use Rattle.loop_nest.proofs.Ends.{ends_within}
use Rattle.loop_nest.proofs.Searching.{fewer-set, shorter}
use Rattle.loop_nest.proofs.Linked.{from_targets, targets_has}

-- how many nodes were not seen
pub unseen : List Bool → ℕ
unseen seen = length (filter not seen)

pub unseen-set : (u : ℕ) (seen : List Bool) → u < length seen → get_or seen u false ≡ false → unseen (set seen u true) < unseen seen
unfolding unseen
unseen-set u seen lt at = fewer-set not seen u true false lt (ap not at) refl

pub outward_start : (g : Digraph) (seen : List Bool) → 0 < g.nodes → length seen ≡ g.nodes → ((u : ℕ) → get_or seen u false ≡ false) → IsOutward g [] (0 ∷ []) seen
outward_start g seen entry long none = record {
  long = long;
  within = λ i d lt. absurd (omega arith);
  stack_within = All-push (λ u. u < g.nodes) [] 0 (λ i d lt. absurd (omega arith)) entry;
  seen_is = λ u. (λ at. absurd (both_ways (get_or seen u false) (none u) at), λ has. absurd (nil_contains u has));
  around = λ h u out has. absurd (nil_contains u has);
  waiting = λ u has. elim (cons_cases 0 u [] has) [ inl same ↦ inl (sym same) | inr there ↦ absurd (nil_contains u there) ];
  before = λ i j lt below. absurd (omega arith);
  entry = inr (at_head 0 []);
  closed = λ u v has e. absurd (nil_contains u has);
}

pub outward_skips : {g : Digraph} {order : List ℕ} {seen : List Bool} (left : List ℕ) (u : ℕ) → IsOutward g order (left ++ u ∷ []) seen → get_or seen u false ≡ true → IsOutward g order left seen
outward_skips {g} {order} {seen} left u s at =
    let P : ℕ → Type 0 = λ y. Contains order y in
    let settle : (y : ℕ) → Contains order y ⊎ Contains (left ++ u ∷ []) y → Contains order y ⊎ Contains left y =
    λ y o.
    elim o [
      | inl m ↦ inl m
      | inr w ↦ elim (Contains-push_cases left u y w) [ inl old ↦ inr old | inr same ↦ inl (subst P same ((s.seen_is u).0 at)) ]
    ] in
    record {
      long = s.long;
      within = s.within;
      stack_within = shorter g.nodes u left s.stack_within;
      seen_is = s.seen_is;
      around = s.around;
      waiting = λ y has. s.waiting y (Contains-append_left left (u ∷ []) y has);
      before = s.before;
      entry = settle 0 s.entry;
      closed = λ x y has e. settle y (s.closed x y has e);
    }

pub outward_takes : {g : Digraph} {order : List ℕ} {seen : List Bool} (left : List ℕ) (u : ℕ) → IsDigraph g → IsOutward g order (left ++ u ∷ []) seen → get_or seen u false ≡ false → IsOutward g (order ++ u ∷ []) (left ++ targets_of g.edges u) (set seen u true)
outward_takes {g} {order} {seen} left u wf s fresh =
    let long = s.long in
    let next = targets_of g.edges u in
    let below : u < g.nodes = All-contains (λ y. y < g.nodes) (left ++ u ∷ []) u s.stack_within (Contains-push left u) in
    let out : Contains order u → ⊥ = λ has. both_ways (get_or seen u false) fresh ((s.seen_is u).1 has) in
    let settle : (y : ℕ) → Contains order y ⊎ Contains (left ++ u ∷ []) y → Contains (order ++ u ∷ []) y ⊎ Contains (left ++ next) y =
    λ y o.
    elim o [
      | inl m ↦ inl (Contains-append_left order (u ∷ []) y m)
      | inr w ↦
          elim (Contains-push_cases left u y w) [
            | inl old ↦ inr (Contains-append_left left next y old)
            | inr same ↦ let P : ℕ → Type 0 = λ z. Contains (order ++ u ∷ []) z in inl (subst P same (Contains-push order u))
          ]
    ] in
    let around : (h y : ℕ) → (Contains order h → ⊥) → Contains order y → Around g h 0 y = λ h y off has. let r = s.around h y off has in around_from r.1 r.2 in
    let arrives : (h : ℕ) → (Contains (order ++ u ∷ []) h → ⊥) → Around g h 0 u =
    λ h off.
    let apart : u ≢ h = λ e. off (let P : ℕ → Type 0 = λ z. Contains (order ++ u ∷ []) z in subst P e (Contains-push order u)) in
    elim (s.waiting u (Contains-push left u)) [
      | inl at ↦ let P : ℕ → Type 0 = λ z. Around g h z u in subst P at (rest apart)
      | inr p ↦ joined_by (around h p.0 (λ has. off (Contains-append_left order (u ∷ []) h has)) p.1) p.2 (rest apart)
    ] in
    record {
      long = length-set seen u true ∙ long;
      within = All-push (λ y. y < g.nodes) order u s.within below;
      stack_within = All-append (λ y. y < g.nodes) left next (shorter g.nodes u left s.stack_within) (All-from_get_or (λ y. y < g.nodes) next 0 (λ i lt.
          (ends_within wf u (get_or next i 0) (from_targets g.edges u (get_or next i 0) (Contains-get_or next i 0 lt))).1));
      seen_is = λ y.
          elim (cases_eq y u) [
            | inl same ↦ (
              λ _. let P : ℕ → Type 0 = λ z. Contains (order ++ u ∷ []) z in subst P (sym same) (Contains-push order u),
              λ _. ap (λ (z : ℕ). get_or (set seen u true) z false) same ∙ get_or-set_same seen u true false (omega arith),
            )
            | inr other ↦ (
              λ at. Contains-append_left order (u ∷ []) y ((s.seen_is y).0 (sym (get_or-set_other seen u y true false other) ∙ at)),
              λ has.
                  elim (Contains-push_cases order u y has) [
                    | inl old ↦ get_or-set_other seen u y true false other ∙ (s.seen_is y).1 old
                    | inr same ↦ absurd (other (sym same))
                  ],
            )
          ];
      around = λ h y off has.
          elim (Contains-push_cases order u y has) [
            | inl old ↦ s.around h y (λ c. off (Contains-append_left order (u ∷ []) h c)) old
            | inr same ↦ let P : ℕ → Type 0 = λ z. Around g h 0 z in leads_around (subst P same (arrives h off))
          ];
      waiting = λ y has.
          elim (Contains-append_cases left next y has) [
            | inl old ↦
                elim (s.waiting y (Contains-append_left left (u ∷ []) y old)) [
                  | inl at ↦ inl at
                  | inr p ↦ inr (p.0, Contains-append_left order (u ∷ []) p.0 p.1, p.2)
                ]
            | inr new' ↦ inr (u, Contains-push order u, from_targets g.edges u y new')
          ];
      before = λ i j lt inside.
          let size = length_push order u in
          let at_i : get_or (order ++ u ∷ []) i 0 ≡ get_or order i 0 = get_or_append_left order (u ∷ []) 0 i (omega arith) in
          elim (cases_lt j (length order)) [
            | inl low ↦ λ d.
                let at_j : get_or (order ++ u ∷ []) j 0 ≡ get_or order j 0 = get_or_append_left order (u ∷ []) 0 j low in
                let P : ℕ → Type 0 = λ z. Dominates g z (get_or (order ++ u ∷ []) i 0) in
                let Q : ℕ → Type 0 = λ z. Dominates g (get_or order j 0) z in
                s.before i j lt low (subst Q at_i (subst P at_j d))
            | inr high ↦ λ d.
                let at_j : get_or (order ++ u ∷ []) j 0 ≡ u = get_or_push order u 0 j (omega arith) in
                let P : ℕ → Type 0 = λ z. Dominates g z (get_or (order ++ u ∷ []) i 0) in
                let Q : ℕ → Type 0 = λ z. Dominates g u z in
                not_around (subst Q at_i (subst P at_j d)) (around u (get_or order i 0) out (Contains-get_or order i 0 (omega arith)))
          ];
      entry = settle 0 s.entry;
      closed = λ x y has e.
          elim (Contains-push_cases order u x has) [
            | inl old ↦ settle y (s.closed x y old e)
            | inr same ↦
                let P : ℕ → Type 0 = λ z. Edge g z y in
                inr (Contains-append_right left next y (targets_has g.edges u y (subst P (sym same) e)))
          ];
    }

module _ {g : Digraph} {order : List ℕ} {seen : List Bool} (s : IsOutward g order [] seen) where
  reaches : {u v : ℕ} {ns : List ℕ} → Walk g u v ns → Contains order u → Contains order v
  reaches stay has = has
  reaches (along {u} {v} {w} {ns} e t) has = reaches t (elim (s.closed u v has e) [ inl c ↦ c | inr c ↦ absurd (nil_contains v c) ])

  pub outward_ends : AreDominatorsFirst g order
  outward_ends = record {
    within = s.within;
    before = s.before;
    complete = λ u reached. reaches reached.1 (elim s.entry [ inl c ↦ c | inr c ↦ absurd (nil_contains 0 c) ]);
  }

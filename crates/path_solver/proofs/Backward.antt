-- The search backwards from the exits, step by step.
use Rattle.std.proofs.Common.{◌≡◌, ℕ, ◌<◌, ◌⊎◌, Bool, true, false, List, [], ◌∷◌, ◌++◌, length, get_or, set, Contains, sym, ap, ◌∙◌, subst, inl, inr, arith}
use Rattle.std.proofs.lemmas.Bool.{cases_eq, both_ways}
use Rattle.std.proofs.lemmas.List.{length-set, get_or-set_same, get_or-set_other}
use Rattle.std.proofs.lemmas.List.Elements.{All-contains, All-append, All-from_get_or, Contains-append_left, Contains-append_right, Contains-push, Contains-push_cases, Contains-append_cases, Contains-get_or}
use Rattle.lists.specs.Members.{nil_contains}
use Rattle.loop_nest.specs.Digraph.{Digraph, Edge, IsDigraph, sources_of}
use Rattle.loop_nest.specs.Walks.{Walk}
use Rattle.loop_nest.specs.Walks.Walk.{stay, along}
use Rattle.loop_nest.proofs.Searching.{shorter, sources_has, from_sources}
use Rattle.loop_nest.proofs.Ends.{ends_within}
use Rattle.path_solver.specs.Reaching.{ReachesExit, IsFlagged, AreReaching, IsBackwardSearch}

set_at : (u : ℕ) (flags : List Bool) → u < length flags → IsFlagged (set flags u true) u
set_at u flags lt = get_or-set_same flags u true false lt

set_keeps : (u y : ℕ) (flags : List Bool) → u < length flags → IsFlagged flags y → IsFlagged (set flags u true) y
set_keeps u y flags lt at =
    elim (cases_eq y u) [
      | inl same ↦ ap (λ (z : ℕ). get_or (set flags u true) z false) same ∙ set_at u flags lt
      | inr other ↦ get_or-set_other flags u y true false other ∙ at
    ]

set_cases : (u y : ℕ) (flags : List Bool) → IsFlagged (set flags u true) y → (y ≡ u) ⊎ IsFlagged flags y
set_cases u y flags at =
    elim (cases_eq y u) [
      | inl same ↦ inl same
      | inr other ↦ inr (sym (get_or-set_other flags u y true false other) ∙ at)
    ]

before : {g : Digraph} {u v : ℕ} → Edge g u v → ReachesExit g v → ReachesExit g u
before {g} {u} {v} e r = record { exit = r.exit; among = r.among; nodes = u ∷ r.nodes; walk = along e r.walk }

pub search_start : (g : Digraph) (flags : List Bool) → IsDigraph g → length flags ≡ g.nodes → ((u : ℕ) → get_or flags u false ≡ false) → IsBackwardSearch g g.exits flags
search_start g flags wf long none = record {
  long = long;
  stack_within = wf.exits.within;
  found = λ u at. absurd (both_ways (get_or flags u false) (none u) at);
  waiting = λ u has. record { exit = u; among = has; nodes = u ∷ []; walk = stay };
  from_exits = λ u has. inr has;
  closed = λ u v at e. absurd (both_ways (get_or flags v false) (none v) at);
}

pub search_skips : {g : Digraph} {flags : List Bool} (left : List ℕ) (x : ℕ) → IsBackwardSearch g (left ++ x ∷ []) flags → get_or flags x false ≡ true → IsBackwardSearch g left flags
search_skips {g} {flags} left x s at =
    let P : ℕ → Type 0 = λ y. IsFlagged flags y in
    let settle : (y : ℕ) → IsFlagged flags y ⊎ Contains (left ++ x ∷ []) y → IsFlagged flags y ⊎ Contains left y =
    λ y o.
    elim o [
      | inl m ↦ inl m
      | inr w ↦ elim (Contains-push_cases left x y w) [ inl old ↦ inr old | inr same ↦ inl (subst P same at) ]
    ] in
    record {
      long = s.long;
      stack_within = shorter g.nodes x left s.stack_within;
      found = s.found;
      waiting = λ y has. s.waiting y (Contains-append_left left (x ∷ []) y has);
      from_exits = λ y has. settle y (s.from_exits y has);
      closed = λ u v has e. settle u (s.closed u v has e);
    }

pub search_takes : {g : Digraph} {flags : List Bool} (left : List ℕ) (x : ℕ) → IsDigraph g → IsBackwardSearch g (left ++ x ∷ []) flags → IsBackwardSearch g (left ++ sources_of g.edges x) (set flags x true)
search_takes {g} {flags} left x wf s =
    let long = s.long in
    let next = sources_of g.edges x in
    let below : x < g.nodes = All-contains (λ y. y < g.nodes) (left ++ x ∷ []) x s.stack_within (Contains-push left x) in
    let lt : x < length flags = omega arith in
    let P : ℕ → Type 0 = λ y. IsFlagged (set flags x true) y in
    let settle : (y : ℕ) → IsFlagged flags y ⊎ Contains (left ++ x ∷ []) y → IsFlagged (set flags x true) y ⊎ Contains (left ++ next) y =
    λ y o.
    elim o [
      | inl m ↦ inl (set_keeps x y flags lt m)
      | inr w ↦
          elim (Contains-push_cases left x y w) [
            | inl old ↦ inr (Contains-append_left left next y old)
            | inr same ↦ inl (subst P same (set_at x flags lt))
          ]
    ] in
    let R : ℕ → Type 0 = λ y. ReachesExit g y in
    let here : ReachesExit g x = s.waiting x (Contains-push left x) in
    record {
      long = length-set flags x true ∙ long;
      stack_within = All-append (λ y. y < g.nodes) left next (shorter g.nodes x left s.stack_within) (All-from_get_or (λ y. y < g.nodes) next 0 (λ i lt'.
          (ends_within wf (get_or next i 0) x (from_sources g.edges (get_or next i 0) x (Contains-get_or next i 0 lt'))).0));
      found = λ y at. elim (set_cases x y flags at) [ inl same ↦ subst R (sym same) here | inr old ↦ s.found y old ];
      waiting = λ y has.
          elim (Contains-append_cases left next y has) [
            | inl old ↦ s.waiting y (Contains-append_left left (x ∷ []) y old)
            | inr new' ↦ before (from_sources g.edges y x new') here
          ];
      from_exits = λ y has. settle y (s.from_exits y has);
      closed = λ u v at e.
          elim (set_cases x v flags at) [
            | inl same ↦ let Q : ℕ → Type 0 = λ z. Edge g u z in inr (Contains-append_right left next u (sources_has g.edges u x (subst Q same e)))
            | inr old ↦ settle u (s.closed u v old e)
          ];
    }

module _ {g : Digraph} {flags : List Bool} (s : IsBackwardSearch g [] flags) where
  flagged : {u v : ℕ} {ns : List ℕ} → Walk g u v ns → IsFlagged flags v → IsFlagged flags u
  flagged stay at = at
  flagged (along {u} {v} {w} {ns} e t) at = elim (s.closed u v (flagged t at) e) [ inl c ↦ c | inr c ↦ absurd (nil_contains u c) ]

  pub search_ends : AreReaching g flags
  search_ends = record {
    long = s.long;
    each = λ u. (s.found u, λ r. flagged r.walk (elim (s.from_exits r.exit r.among) [ inl c ↦ c | inr c ↦ absurd (nil_contains r.exit c) ]));
  }

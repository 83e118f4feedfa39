-- A search that goes back along the edges of a graph, step by step.
use Rattle.std.proofs.Common.{◌≡◌, ℕ, zero, suc, ◌+◌, ◌<◌, ◌≤◌, ◌⊎◌, Bool, true, false, not, List, [], ◌∷◌, ◌++◌, length, get_or, map, set, replicate, filter, All, Contains, refl, sym, ap, ◌∙◌, subst, inl, inr, arith}
use Rattle.std.proofs.lemmas.Bool.{cases_eq, both_ways}
use Rattle.std.proofs.lemmas.List.{length-append, length-set, get_or_append_left, get_or_push, get_or-set_same, get_or-set_other, length-replicate}
use Rattle.std.proofs.lemmas.List.Elements.{All-contains, All-append, All-from_get_or, Contains-append_left, Contains-append_right, Contains-push, Contains-push_cases, Contains-append_cases, Contains-get_or}
use Rattle.lists.specs.Members.{nil_contains, at_head, cons_cases, map_contains}
use Rattle.loop_nest.proofs.Elements.{from_map}
use Rattle.loop_nest.specs.Digraph.{Digraph, Edge, IsDigraph, sources_of}
use Rattle.loop_nest.proofs.Searching.{sources_has, from_sources, same_everywhere, fewer-set, shorter}
use Rattle.loop_rules.specs.Further.Search.{AreBacks, AreBacksBelow, AreWithin, ComesBy, IsSearch, IsSearched, IsTaken, Skips, StopsBy, back_from, flag_at}
use Rattle.loop_rules.specs.Further.Search.ComesBy.{here, along}
use Rattle.loop_rules.specs.Further.Search.Skips.{back}

-- ---- flags

-- how many nodes are not flagged
pub unflagged : List Bool → ℕ
unflagged flags = length (filter not flags)

pub unflagged-set : (x : ℕ) (flags : List Bool) → x < length flags → flag_at flags x ≡ false → unflagged (set flags x true) < unflagged flags
unfolding unflagged
unflagged-set x flags lt fresh = fewer-set not flags x true false lt (ap not fresh) refl

flagged_at : (x : ℕ) (flags : List Bool) → x < length flags → flag_at (set flags x true) x ≡ true
flagged_at x flags lt = get_or-set_same flags x true false lt

flagged_still : (x y : ℕ) (flags : List Bool) → x < length flags → flag_at flags y ≡ true → flag_at (set flags x true) y ≡ true
flagged_still x y flags lt at =
    elim (cases_eq y x) [
      | inl same ↦ ap (λ (z : ℕ). flag_at (set flags x true) z) same ∙ flagged_at x flags lt
      | inr other ↦ get_or-set_other flags x y true false other ∙ at
    ]

flagged_cases : (x y : ℕ) (flags : List Bool) → flag_at (set flags x true) y ≡ true → (y ≡ x) ⊎ (flag_at flags y ≡ true)
flagged_cases x y flags at =
    elim (cases_eq y x) [
      | inl same ↦ inl same
      | inr other ↦ inr (sym (get_or-set_other flags x y true false other) ∙ at)
    ]

-- ---- where it is skipped back to

-- there is none for the first nodes
pub backs_none : (g : Digraph) (idle : List Bool) (backs : List ℕ) → backs ≡ [] → AreBacksBelow g idle 0 backs
backs_none g idle backs is = record { long = ap (λ (us : List ℕ). length us) is; each = λ u lt. absurd (omega arith) }

pub backs_more : (g : Digraph) (idle : List Bool) (n : ℕ) (backs new : List ℕ) (x : ℕ) → AreBacksBelow g idle n backs → Skips g idle n x × (x ≤ n) → new ≡ backs ++ x ∷ [] → AreBacksBelow g idle (n + 1) new
backs_more g idle n backs new x are to is = subst (AreBacksBelow g idle (n + 1)) (sym is) (record {
  long = length-append backs (x ∷ []) ∙ (let long = are.long in omega arith);
  each = λ u lt. elim (cases_eq u n) [
    | inl last ↦ subst (λ (v : ℕ). Skips g idle v (back_from (backs ++ x ∷ []) v) × (back_from (backs ++ x ∷ []) v ≤ v)) (sym last) (subst (λ (y : ℕ). Skips g idle n y × (y ≤ n)) (sym at) to)
    | inr other ↦ let below : u < n = omega arith in subst (λ (y : ℕ). Skips g idle u y × (y ≤ u)) (sym (earlier u below)) (are.each u below)
  ];
})
  where
    at : back_from (backs ++ x ∷ []) n ≡ x
    at = get_or_push backs x 0 n are.long

    earlier : (u : ℕ) → u < n → back_from (backs ++ x ∷ []) u ≡ back_from backs u
    earlier u lt = get_or_append_left backs (x ∷ []) 0 u (let long = are.long in omega arith)

-- past an idle node to which one edge leads, from below
pub skips_past : (g : Digraph) (idle : List Bool) (node : ℕ) (backs from : List ℕ) → from ≡ sources_of g.edges node → length from ≡ 1 → get_or from 0 0 < node → flag_at idle node ≡ true → AreBacksBelow g idle node backs
    → Skips g idle node (back_from backs (get_or from 0 0)) × (back_from backs (get_or from 0 0) ≤ node)
skips_past g idle node backs [] is one below flag are = absurd (omega (arith, one))
skips_past g idle node backs (w ∷ []) is one below flag are =
    let rest = are.each w below in
    (back flag (λ zero. omega (arith, below, zero)) (sym is) rest.0, (let le = rest.1 in omega arith))
skips_past g idle node backs (w ∷ v ∷ ws) is one below flag are = absurd (omega (arith, one))

pub within_of : (g : Digraph) (idle : List Bool) (backs : List ℕ) → AreBacks g idle backs → AreWithin g.nodes backs
within_of g idle backs are = record { long = are.long; each = λ u lt. let le = (are.each u lt).1 in omega arith }

-- ---- the search

module _ (g : Digraph) (backs : List ℕ) (Stop : ℕ → Type 0) (end : ℕ) where
  abbrev By : ℕ → Type 0
  By x = ComesBy g backs Stop end x

  source_within : (u v : ℕ) → IsDigraph g → Edge g u v → u < g.nodes
  source_within u v wf has = (All-contains (λ (e : ℕ × ℕ). (e.0 < g.nodes) × (e.1 < g.nodes)) g.edges (u, v) wf.edges.ends has).0

  pub search_begins : (stack : List ℕ) (flags : List Bool) (stops : List ℕ) → end < g.nodes → stack ≡ end ∷ [] → flags ≡ replicate g.nodes false → stops ≡ [] → IsSearch g backs Stop end stack flags stops
  search_begins stack flags stops below one none nowhere =
      let P : List Bool → Type 0 = λ fs. IsSearch g backs Stop end stack fs stops in
      let Q : List ℕ → Type 0 = λ us. IsSearch g backs Stop end us (replicate g.nodes false) stops in
      let R : List ℕ → Type 0 = λ us. IsSearch g backs Stop end (end ∷ []) (replicate g.nodes false) us in
      let fresh : (x : ℕ) → flag_at (replicate g.nodes false) x ≡ true → ⊥ = λ x at. both_ways (flag_at (replicate g.nodes false) x) (same_everywhere g.nodes x false) at in
      subst P (sym none) (subst Q (sym one) (subst R (sym nowhere) (record {
        long = length-replicate g.nodes false;
        stack_within = All-from_get_or (λ x. x < g.nodes) (end ∷ []) 0 (λ i lt. one_below g.nodes below i lt);
        found = λ x at. absurd (fresh x at);
        waiting = λ x has. elim (cons_cases end x [] has) [ inl same ↦ subst By same here | inr none' ↦ absurd (nil_contains x none') ];
        entry = inr (at_head end []);
        closed = λ u v at go e. absurd (fresh v at);
        listed = λ x has. absurd (nil_contains x has);
        decided = λ x at. absurd (fresh x at);
      })))
    where
      one_below : (n : ℕ) → end < n → (i : ℕ) → i < 1 → get_or (end ∷ []) i 0 < n
      one_below n some zero lt = some
      one_below n some (suc i) lt = absurd (omega arith)

  pub search_skips : (flags : List Bool) (stops left : List ℕ) (x : ℕ) → IsSearch g backs Stop end (left ++ x ∷ []) flags stops → flag_at flags x ≡ true → IsSearch g backs Stop end left flags stops
  search_skips flags stops left x s at =
      let settle : (y : ℕ) → (flag_at flags y ≡ true) ⊎ Contains (left ++ x ∷ []) y → (flag_at flags y ≡ true) ⊎ Contains left y =
      λ y o.
      elim o [
        | inl m ↦ inl m
        | inr w ↦ elim (Contains-push_cases left x y w) [ inl old ↦ inr old | inr same ↦ inl (subst (λ (z : ℕ). flag_at flags z ≡ true) same at) ]
      ] in
      record {
        long = s.long;
        stack_within = shorter g.nodes x left s.stack_within;
        found = s.found;
        waiting = λ y has. s.waiting y (Contains-append_left left (x ∷ []) y has);
        entry = settle end s.entry;
        closed = λ u v m go e. settle (back_from backs u) (s.closed u v m go e);
        listed = s.listed;
        decided = s.decided;
      }

  -- a node that isn't flagged is taken from the stack
  module _ (within : AreWithin g.nodes backs) (flags : List Bool) (stops left : List ℕ) (x : ℕ) (wf : IsDigraph g) (s : IsSearch g backs Stop end (left ++ x ∷ []) flags stops) where
    below : x < g.nodes
    below = All-contains (λ y. y < g.nodes) (left ++ x ∷ []) x s.stack_within (Contains-push left x)

    inside : x < length flags
    inside = let b = below in let long = s.long in omega arith

    come : By x
    come = s.waiting x (Contains-push left x)

    settle : (more : List ℕ) (y : ℕ) → (flag_at flags y ≡ true) ⊎ Contains (left ++ x ∷ []) y → (flag_at (set flags x true) y ≡ true) ⊎ Contains (left ++ more) y
    settle more y o =
        elim o [
          | inl m ↦ inl (flagged_still x y flags inside m)
          | inr w ↦
              elim (Contains-push_cases left x y w) [
                | inl old ↦ inr (Contains-append_left left more y old)
                | inr same ↦ inl (subst (λ (z : ℕ). flag_at (set flags x true) z ≡ true) same (flagged_at x flags inside))
              ]
        ]

    found : (y : ℕ) → flag_at (set flags x true) y ≡ true → By y
    found y at =
        elim (flagged_cases x y flags at) [
          | inl same ↦ subst By (sym same) come
          | inr old ↦ s.found y old
        ]

    abbrev next : List ℕ
    next = map (back_from backs) (sources_of g.edges x)

    next_below : All (λ y. y < g.nodes) next
    next_below = All-from_get_or (λ y. y < g.nodes) next 0 (λ i lt.
        let a = from_map (back_from backs) (sources_of g.edges x) (get_or next i 0) (Contains-get_or next i 0 lt) in
        subst (λ (y : ℕ). y < g.nodes) a.2 (within.each a.0 (source_within a.0 x wf (from_sources g.edges a.0 x a.1))))

    pub search_goes_on : (¬ Stop x) → IsSearch g backs Stop end (left ++ map (back_from backs) (sources_of g.edges x)) (set flags x true) stops
    search_goes_on go =
        record {
          long = length-set flags x true ∙ s.long;
          stack_within = All-append (λ y. y < g.nodes) left next (shorter g.nodes x left s.stack_within) next_below;
          found = found;
          waiting = λ y has.
              elim (Contains-append_cases left next y has) [
                | inl old ↦ s.waiting y (Contains-append_left left (x ∷ []) y old)
                | inr later ↦
                    let a = from_map (back_from backs) (sources_of g.edges x) y later in
                    subst By a.2 (along come go (from_sources g.edges a.0 x a.1))
              ];
          entry = settle next end s.entry;
          closed = λ u v at on e.
              elim (flagged_cases x v flags at) [
                | inl same ↦
                    let P : ℕ → Type 0 = λ z. Contains g.edges (u, z) in
                    inr (Contains-append_right left next (back_from backs u) (map_contains (back_from backs) (sources_of g.edges x) u (sources_has g.edges u x (subst P same e))))
                | inr old ↦ settle next (back_from backs u) (s.closed u v old on e)
              ];
          listed = s.listed;
          decided = λ y at.
              elim (flagged_cases x y flags at) [
                | inl same ↦ inr (λ stop. go (subst Stop same stop))
                | inr old ↦ s.decided y old
              ];
        }

    pub search_stops : Stop x → IsSearch g backs Stop end left (set flags x true) (stops ++ x ∷ [])
    search_stops stop = record {
      long = length-set flags x true ∙ s.long;
      stack_within = shorter g.nodes x left s.stack_within;
      found = found;
      waiting = λ y has. s.waiting y (Contains-append_left left (x ∷ []) y has);
      entry = without end (settle [] end s.entry);
      closed = λ u v at on e.
          elim (flagged_cases x v flags at) [
            | inl same ↦ absurd (on (subst Stop (sym same) stop))
            | inr old ↦ without (back_from backs u) (settle [] (back_from backs u) (s.closed u v old on e))
          ];
      listed = λ y has.
          elim (Contains-push_cases stops x y has) [
            | inl old ↦ s.listed y old
            | inr same ↦ subst (StopsBy g backs Stop end) same (come, stop)
          ];
      decided = λ y at.
          elim (flagged_cases x y flags at) [
            | inl same ↦ inl (subst Stop (sym same) stop, subst (Contains (stops ++ x ∷ [])) (sym same) (Contains-push stops x))
            | inr old ↦ elim (s.decided y old) [ inl d ↦ inl (d.0, Contains-append_left stops (x ∷ []) y d.1) | inr go ↦ inr go ]
          ];
    }
      where
        without : (y : ℕ) → (flag_at (set flags x true) y ≡ true) ⊎ Contains (left ++ []) y → (flag_at (set flags x true) y ≡ true) ⊎ Contains left y
        without y (inl at) = inl at
        without y (inr has) = elim (Contains-append_cases left [] y has) [ inl old ↦ inr old | inr none ↦ absurd (nil_contains y none) ]

    pub search_takes : (stack stack' stops' : List ℕ) → stack ≡ left → IsTaken Stop (map (back_from backs) (sources_of g.edges x)) x stops stops' stack stack' → IsSearch g backs Stop end stack' (set flags x true) stops'
    search_takes stack stack' stops' is (inl (stop, listed, same)) =
        subst (λ (us : List ℕ). IsSearch g backs Stop end us (set flags x true) stops') (sym (same ∙ is))
        (subst (λ (us : List ℕ). IsSearch g backs Stop end left (set flags x true) us) (sym listed) (search_stops stop))
    search_takes stack stack' stops' is (inr (go, same, more)) =
        subst (λ (us : List ℕ). IsSearch g backs Stop end us (set flags x true) stops') (sym (more ∙ ap (λ (us : List ℕ). us ++ map (back_from backs) (sources_of g.edges x)) is))
        (subst (λ (us : List ℕ). IsSearch g backs Stop end (left ++ map (back_from backs) (sources_of g.edges x)) (set flags x true) us) (sym same) (search_goes_on go))

  module _ (flags : List Bool) (stops : List ℕ) (s : IsSearch g backs Stop end [] flags stops) where
    all_found : {x : ℕ} → By x → flag_at flags x ≡ true
    all_found here = elim s.entry [ inl m ↦ m | inr w ↦ absurd (nil_contains end w) ]
    all_found (along {u} {v} come go e) = elim (s.closed u v (all_found come) go e) [ inl m ↦ m | inr w ↦ absurd (nil_contains (back_from backs u) w) ]

    all_listed : (x : ℕ) → StopsBy g backs Stop end x → Contains stops x
    all_listed x (come, stop) = elim (s.decided x (all_found come)) [ inl d ↦ d.1 | inr go ↦ absurd (go stop) ]

    pub search_ends : IsSearched g backs Stop end flags stops
    search_ends = record {
      long = s.long;
      each = λ x. (s.found x, λ come. all_found come);
      stopped = λ x. (s.listed x, all_listed x);
      decided = λ x come. elim (s.decided x (all_found come)) [ inl d ↦ inl d.0 | inr go ↦ inr go ];
    }

-- ---- it ends

pub sources_below : (g : Digraph) (x : ℕ) → IsDigraph g → All (λ y. y < g.nodes) (sources_of g.edges x)
sources_below g x wf = All-from_get_or (λ y. y < g.nodes) (sources_of g.edges x) 0 (λ i lt.
    let u = get_or (sources_of g.edges x) i 0 in
    (All-contains (λ (e : ℕ × ℕ). (e.0 < g.nodes) × (e.1 < g.nodes)) g.edges (u, x) wf.edges.ends (from_sources g.edges u x (Contains-get_or (sources_of g.edges x) i 0 lt))).0)

pub stacked_within : (n x : ℕ) (stack left : List ℕ) → stack ≡ left ++ x ∷ [] → All (λ y. y < n) stack → x < n
stacked_within n x stack left is all = let P : List ℕ → Type 0 = λ ls. Contains ls x in All-contains (λ y. y < n) stack x all (subst P (sym is) (Contains-push left x))

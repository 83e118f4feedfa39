-- A graph whose edges lead to greater numbers alone, and whose entry reaches each node: its reduction leaves node 0 alone, and it has no loops.
use Rattle.std.proofs.Common.{◌≡◌, ◌≢◌, ◌⊎◌, ℕ, zero, suc, ◌+◌, ◌-◌, ◌<◌, ◌≤◌, ◌&&◌, Bool, true, false, not, List, [], ◌∷◌, map, filter, Contains, refl, sym, ap, ap₂, ◌∙◌, subst, inl, inr, arith}
use Rattle.std.specs.Prelude.{◌==◌, if◌then◌else◌}
use Rattle.std.specs.List.{range_with_len}
use Rattle.std.proofs.lemmas.Bool.{cases_eq, eq-eqb, ne_eqb, both_ways}
use Rattle.lists.specs.Members.{cons_cases, map_contains, nil_contains}
use Rattle.loop_nest.specs.Digraph.{Digraph, Edge, IsDigraph}
use Rattle.loop_nest.specs.Walks.{Walk, IsReachable, IsHeader}
use Rattle.loop_nest.specs.Walks.Walk.{stay, along}
use Rattle.loop_nest.specs.Nest.{IsNest}
use Rattle.loop_nest.specs.Reduction.{Quotient, whole, is_self_edge, renamed, DropsSelfEdge, CanMerge, Merges, Reduces, IsReduced, Leaves}
use Rattle.loop_nest.specs.Reduction.Reduces.{done, drops, merges}
use Rattle.loop_nest.proofs.Elements.{dropped_at, filter_contains, from_filter, from_map, kept_at}
use Rattle.loop_nest.proofs.Ends.{ends_within}

-- each edge leads to a greater number
abbrev pub LeadUp : Digraph → Type 0
LeadUp g = (u v : ℕ) → Edge g u v → u < v

-- ---- names

abbrev is_other : ℕ → ℕ → Bool
is_other x a = not (a == x)

abbrev leads_out : ℕ × ℕ → Bool
leads_out e = not (is_self_edge 0 e)

other_than : (x a : ℕ) → a ≢ x → is_other x a ≡ true
other_than x a differ = ap not (ne_eqb a x differ)

not_other : (x : ℕ) → is_other x x ≡ false
not_other x = ap not (eq-eqb x x refl)

renamed_same : (x p a : ℕ) → a ≡ x → renamed x p a ≡ p
renamed_same x p a same = ap (λ (b : Bool). if b then p else a) (eq-eqb a x same)

renamed_other : (x p a : ℕ) → a ≢ x → renamed x p a ≡ a
renamed_other x p a differ = ap (λ (b : Bool). if b then p else a) (ne_eqb a x differ)

never_both : (b : Bool) → not (b && false) ≡ true
never_both true = refl
never_both false = refl

-- greater numbers are other ones
kept_range : (x a n : ℕ) → x < a → filter (is_other x) (range_with_len a n) ≡ range_with_len a n
kept_range x a zero above = refl
kept_range x a (suc n) above =
    kept_at (is_other x) a (range_with_len (a + 1) n) (other_than x a (λ same. let bad : ⊥ = omega arith in bad))
    ∙ ap (λ (xs : List ℕ). a ∷ xs) (kept_range x (a + 1) n (omega arith))

-- ---- one node after another is merged into node 0

-- of n nodes those from 1 to k are merged into node 0, and so many others are left, which are all entered
record IsMergedUpTo (n k left : ℕ) (s : Quotient) : Type 0 where
  nodes : s.nodes ≡ 0 ∷ range_with_len (k + 1) left
  count : k + 1 + left ≡ n
  edges : (a b : ℕ) → Contains s.edges (a, b) → (a < b) × (k < b) × (b < n) × ((a ≡ 0) ⊎ (k < a))
  entered : (v : ℕ) → k < v → v < n → (a : ℕ) × Contains s.edges (a, v)

module _ (n k left : ℕ) (s : Quotient) (h : IsMergedUpTo n k (suc left) s) where
  abbrev next : ℕ
  next = k + 1

  abbrev rename : ℕ × ℕ → ℕ × ℕ
  rename e = (renamed next 0 e.0, renamed next 0 e.1)

  abbrev merged : Quotient
  merged = record { nodes = filter (is_other next) s.nodes; edges = map rename s.edges }

  abbrev after : Quotient
  after = record { nodes = merged.nodes; edges = filter leads_out merged.edges }

  -- the edges to the next node come from node 0
  from_entry : (a : ℕ) → Contains s.edges (a, next) → a ≡ 0
  from_entry a has =
      let e = h.edges a next has in
      let up = e.0 in
      elim e.3 [ inl zero' ↦ zero' | inr more ↦ absurd (let bad : ⊥ = omega arith in bad) ]

  can_merge : CanMerge s 0 next
  can_merge =
      let count = h.count in
      let r = h.entered next (omega arith) (omega arith) in
      record {
        not_entry = λ same. let bad : ⊥ = omega arith in bad;
        other = λ same. let bad : ⊥ = omega arith in bad;
        entered = record {
          edge = (let Q : ℕ → Type 0 = λ a. Contains s.edges (a, next) in subst Q (from_entry r.0 r.1) r.1);
          alone = λ q has. from_entry q has;
        };
      }

  merges_next : Merges next 0 s merged
  merges_next = record { can = can_merge; nodes = refl; edges = refl }

  drops_self : DropsSelfEdge 0 merged after
  drops_self = record { nodes = refl; edges = refl }

  nodes_after : after.nodes ≡ 0 ∷ range_with_len (next + 1) left
  nodes_after =
      ap (filter (is_other next)) h.nodes
      ∙ (kept_at (is_other next) 0 (next ∷ range_with_len (next + 1) left) (other_than next 0 (λ same. let bad : ⊥ = omega arith in bad))
      ∙ ap (λ (xs : List ℕ). 0 ∷ xs) (dropped_at (is_other next) next (range_with_len (next + 1) left) (not_other next) ∙ kept_range next (next + 1) left (omega arith)))

  -- an edge that is left, by the edge that it was
  edge_after : (a b c d : ℕ) → Contains s.edges (c, d) → renamed next 0 c ≡ a → renamed next 0 d ≡ b → leads_out (a, b) ≡ true → (a < b) × (next < b) × (b < n) × ((a ≡ 0) ⊎ (next < a))
  edge_after a b c d has at_a at_b out =
      let e = h.edges c d has in
      let up = e.0 in
      let over = e.1 in
      let low = e.2 in
      elim (cases_eq d next) [
        | inl same ↦
            let first : c ≡ 0 = from_entry c (let Q : ℕ → Type 0 = λ z. Contains s.edges (c, z) in subst Q same has) in
            let a_is : a ≡ 0 = sym at_a ∙ (renamed_other next 0 c (λ e. let bad : ⊥ = omega arith in bad) ∙ first) in
            let b_is : b ≡ 0 = sym at_b ∙ renamed_same next 0 d same in
            let stays : leads_out (a, b) ≡ false = ap₂ (λ (x y : ℕ). leads_out (x, y)) a_is b_is in
            absurd (both_ways (leads_out (a, b)) stays out)
        | inr differ ↦
            let b_is : b ≡ d = sym at_b ∙ renamed_other next 0 d differ in
            elim (cases_eq c next) [
              | inl same ↦
                  let a_is : a ≡ 0 = sym at_a ∙ renamed_same next 0 c same in
                  (omega arith, omega arith, omega arith, inl a_is)
              | inr apart ↦
                  let a_is : a ≡ c = sym at_a ∙ renamed_other next 0 c apart in
                  (omega arith, omega arith, omega arith, elim e.3 [ inl zero' ↦ inl (a_is ∙ zero') | inr more ↦ inr (omega arith) ])
            ]
      ]

  edges_after : (a b : ℕ) → Contains after.edges (a, b) → (a < b) × (next < b) × (b < n) × ((a ≡ 0) ⊎ (next < a))
  edges_after a b has =
      let kept = from_filter leads_out merged.edges (a, b) has in
      let m = from_map rename s.edges (a, b) kept.0 in
      edge_after a b m.0.0 m.0.1 m.1 (ap (λ (e : ℕ × ℕ). e.0) m.2) (ap (λ (e : ℕ × ℕ). e.1) m.2) kept.1

  entered_after : (v : ℕ) → next < v → v < n → (a : ℕ) × Contains after.edges (a, v)
  entered_after v above below =
      let r = h.entered v (omega arith) below in
      let same : renamed next 0 v ≡ v = renamed_other next 0 v (λ e. let bad : ⊥ = omega arith in bad) in
      let out : leads_out (renamed next 0 r.0, v) ≡ true =
      ap (λ (b : Bool). not ((renamed next 0 r.0 == 0) && b)) (ne_eqb v 0 (λ e. let bad : ⊥ = omega arith in bad)) ∙ never_both (renamed next 0 r.0 == 0) in
      let Q : ℕ → Type 0 = λ z. Contains merged.edges (renamed next 0 r.0, z) in
      (renamed next 0 r.0, filter_contains leads_out merged.edges (renamed next 0 r.0, v) out (subst Q same (map_contains rename s.edges (r.0, v) r.1)))

  merged_more : IsMergedUpTo n next left after
  merged_more = record {
    nodes = nodes_after;
    count = (let count = h.count in omega arith);
    edges = edges_after;
    entered = entered_after;
  }

-- so all are
all_merged : (n left k : ℕ) (s : Quotient) → IsMergedUpTo n k left s → (last : Quotient) × Reduces s last × IsReduced last × (last.nodes ≡ 0 ∷ [])
all_merged n zero k s h = (
  s,
  done,
  record {
    no_self_edge = λ p has. let e = h.edges p p has in let up = e.0 in let bad : ⊥ = omega arith in bad;
    no_merge = λ x p can. let e = h.edges p x can.entered.edge in let over = e.1 in let low = e.2 in let count = h.count in let bad : ⊥ = omega arith in bad;
  },
  h.nodes,
)
all_merged n (suc left) k s h =
    let rest = all_merged n left (k + 1) (after n k left s h) (merged_more n k left s h) in
    (rest.0, merges (k + 1) 0 (merges_next n k left s h) (drops 0 (drops_self n k left s h) rest.1), rest.2, rest.3)

-- ---- walks

-- a walk ends where it began, or comes by an edge
comes : {g : Digraph} {u w : ℕ} {ns : List ℕ} → Walk g u w ns → (w ≡ u) ⊎ ((q : ℕ) × Edge g q w)
comes stay = inl refl
comes {g} (along {u} {v} {w} {ns} e t) =
    elim (comes t) [
      | inl same ↦ inr (u, let Q : ℕ → Type 0 = λ z. Edge g u z in subst Q (sym same) e)
      | inr r ↦ inr r
    ]

walk_rises : {g : Digraph} {u w : ℕ} {ns : List ℕ} → LeadUp g → Walk g u w ns → u ≤ w
walk_rises up stay = omega arith
walk_rises up (along {u} {v} {w} {ns} e t) = let first = up u v e in let rest = walk_rises up t in omega arith

visits_below : {g : Digraph} {u w : ℕ} {ns : List ℕ} → LeadUp g → Walk g u w ns → (x : ℕ) → Contains ns x → x ≤ w
visits_below up (stay {u}) x has = elim (cons_cases u x [] has) [ inl same ↦ omega arith | inr there ↦ absurd (nil_contains x there) ]
visits_below up (along {u} {v} {w} {ns} e t) x has =
    elim (cons_cases u x ns has) [
      | inl same ↦ let first = up u v e in let rest = walk_rises up t in omega arith
      | inr there ↦ visits_below up t x there
    ]

-- ---- the graph

module _ (d : Digraph) (wf : IsDigraph d) (reached : (u : ℕ) → u < d.nodes → IsReachable d u) (up : LeadUp d) where
  begins : (left : ℕ) → suc left ≡ d.nodes → IsMergedUpTo d.nodes 0 left (whole d)
  begins left size = record {
    nodes = ap (range_with_len 0) (sym size);
    count = omega arith;
    edges = λ a b has. let ends = ends_within wf a b has in let rise = up a b has in (rise, omega arith, ends.1, (elim (cases_eq a 0) [ inl same ↦ inl same | inr other ↦ inr (omega arith) ]));
    entered = λ v above below. elim (comes (reached v below).1) [
      | inl same ↦ absurd (let bad : ⊥ = omega arith in bad)
      | inr r ↦ r
    ];
  }

  -- the reduction leaves node 0 alone
  pub leaves_none : Leaves d []
  leaves_none =
      let some = wf.entry in
      let r = all_merged d.nodes (d.nodes - 1) 0 (whole d) (begins (d.nodes - 1) (omega arith)) in
      record { last = r.0; steps = r.1; reduced = r.2; nodes = r.3 }

  no_header : (h : ℕ) → IsHeader d h → ⊥
  no_header h header =
      let edge = header.1.edge in
      let rise = up header.0 h edge in
      let w = reached header.0 (ends_within wf header.0 h edge).0 in
      let low = visits_below up w.1 h (header.1.dominates w.0 w.1) in
      omega arith

  -- and there are no loops
  pub nests_none : IsNest d []
  nests_none = record {
    rising = λ k lt. absurd (let bad : ⊥ = omega arith in bad);
    loops = λ k x lt. absurd (let bad : ⊥ = omega arith in bad);
    complete = λ h header. absurd (no_header h header);
    outer = λ i lt. absurd (let bad : ⊥ = omega arith in bad);
  }

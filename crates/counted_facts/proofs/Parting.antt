-- Entries of loops in the live graph are those of the whole graph.
use Rattle.std.proofs.Common.{◌≡◌, ℕ, List, [], ◌∷◌, ◌++◌, Contains, refl, sym, ap, ◌∙◌, subst, inl, inr, ◌⊎◌, append_assoc}
use Rattle.lists.specs.Members.{at_head}
use Rattle.loop_nest.specs.Digraph.{Digraph, Edge}
use Rattle.loop_nest.specs.Walks.{Walk, Dominates, IsReachable, IsBackEdge}
use Rattle.loop_nest.specs.Walks.Walk.{stay, along}
use Rattle.loop_nest.specs.Laws.{WalksLeadOn, DominanceIsAntisymmetric}
use Rattle.loop_nest.proofs.Around.{joined, around_from, not_around, dominates_from}
use Rattle.loop_nest.proofs.Ends.{walk_on}
use Rattle.loop_nest.proofs.SimpleWalks.{VisitsOnce, SimpleWalk, simple_walk, begins, walk_until, walk_from, not_in_both}
use Rattle.bytecode_model.specs.Program.{Program}
use Rattle.method_flow.specs.Nodes.{Node, number_of, IsEdge, IsReached}
use Rattle.method_flow.specs.Nodes.IsReached.{first, later}
use Rattle.method_flow.specs.Live.{IsLiveEdge}
use Rattle.method_flow.specs.Graphs.{IsGraphBy, IsReachedEdge}
use Rattle.loop_rules.specs.Counted.{EachCycleIsALoop}
use Rattle.priced_sections.specs.Visits.{IsSegment, KeepsPer}
use Rattle.counted_facts.specs.Laws.{LiveEntriesAreEntries}

first_has : (h : ℕ) (rest before : List ℕ) (a : ℕ) (after : List ℕ) → h ∷ rest ≡ before ++ a ∷ after → Contains (before ++ a ∷ []) h
first_has h rest [] a after is = let P : ℕ → Type 0 = λ z. Contains (a ∷ []) z in let same : a ≡ h = cc in subst P same (at_head a [])
first_has h rest (b ∷ bs) a after is = let P : ℕ → Type 0 = λ z. Contains (b ∷ (bs ++ a ∷ [])) z in let same : b ≡ h = cc in subst P same (at_head b (bs ++ a ∷ []))

first_or_later : (x : ℕ) (ns before : List ℕ) (a k : ℕ) (after : List ℕ) → x ∷ ns ≡ before ++ a ∷ k ∷ after → ((a ≡ x) × (ns ≡ k ∷ after)) ⊎ ((earlier : List ℕ) × (ns ≡ earlier ++ a ∷ k ∷ after))
first_or_later x ns [] a k after is = inl (cc, cc)
first_or_later x ns (b ∷ bs) a k after is = inr (bs, cc)

module _ (leads_on : WalksLeadOn) (antisymmetric : DominanceIsAntisymmetric) (whole part : Digraph) (edges : (u v : ℕ) → Edge part u v → Edge whole u v)
    (reached : (u v : ℕ) → Edge part u v → IsReachable part u) (cycles : EachCycleIsALoop whole) where
  walk_in : {u v : ℕ} {ns : List ℕ} → Walk part u v ns → Walk whole u v ns
  walk_in stay = stay
  walk_in (along {u} {v} {w} {ns} e t) = along (edges u v e) (walk_in t)

  dominates_in : (x h : ℕ) → Dominates whole x h → Dominates part x h
  dominates_in x h d ns w = d ns (walk_in w)

  reached_header : (u h : ℕ) → Edge part u h → IsReachable part h
  reached_header u h e = let r = reached u h e in walk_on r.1 (along e stay)

  -- a walk from the target of a back edge to its source that visits no node twice takes no back edge of the whole
  no_later : (u h : ℕ) → IsBackEdge part u h → (s : SimpleWalk part h u) → (a k : ℕ) → IsBackEdge whole a k → (before after : List ℕ) → s.nodes ≡ before ++ a ∷ k ∷ after → ⊥
  no_later u h b s a k back before after is =
      let first_ones = before ++ a ∷ [] in
      let last_ones = k ∷ after in
      let parts : s.nodes ≡ first_ones ++ last_ones = is ∙ simp append_assoc in
      let P : List ℕ → Type 0 = λ zs. VisitsOnce zs in
      let once = subst P parts s.once in
      let to_source = walk_until s.walk before a (k ∷ after) is in
      let from_target = walk_from s.walk first_ones k after parts in
      let apart_from : Contains first_ones k → ⊥ = λ c. not_in_both first_ones last_ones k once c (at_head k after) in
      let way = around_from (walk_in to_source) apart_from in
      let outer = dominates_in k h (dominates_from (λ around. not_around back.dominates (joined around way))) in
      let heads = begins s.walk in
      let at_first = first_has h heads.0 before a last_ones (sym heads.1 ∙ is) in
      let never : Contains last_ones h → ⊥ = λ c. not_in_both first_ones last_ones h once at_first c in
      let inner = dominates_from (λ around. not_around b.dominates (joined around (around_from from_target never))) in
      let same = antisymmetric part h k (reached_header u h b.edge) inner outer in
      let R : ℕ → Type 0 = λ z. Contains last_ones z in
      never (subst R (sym same) (at_head k after))

  back_edge_in : (u h : ℕ) → IsBackEdge part u h → IsBackEdge whole u h
  back_edge_in u h b =
      let r = reached u h b.edge in
      let s = simple_walk (leads_on part 0 u h r.0 r.1 (b.dominates r.0 r.1)).1 in
      let c = cycles u h s.nodes (edges u h b.edge) (walk_in s.walk) in
      elim (first_or_later u s.nodes c.2.0 c.0 c.1 c.2.1 c.2.2) [
        | inl at ↦
            let heads = begins s.walk in
            let same : c.1 ≡ h = cc (heads.1, at.1) in
            let P : ℕ → Type 0 = λ y. IsBackEdge whole y c.1 in
            let Q : ℕ → Type 0 = λ z. IsBackEdge whole u z in
            subst Q same (subst P at.0 c.3)
        | inr further ↦ absurd (no_later u h b s c.0 c.1 c.3 further.0 c.2.1 further.1)
      ]

  -- a step of a walk is an edge
  edge_taken : {a x : ℕ} {ns : List ℕ} → Walk part a x ns → (u v : ℕ) (rest : List ℕ) → ns ≡ u ∷ v ∷ rest → Edge part u v
  edge_taken (stay {u = a}) u v rest is = absurd (cc)
  edge_taken (along {u = a} {v = b} {w} {ns} e t) u v rest is =
      let next = begins t in
      let same : a ≡ u = cc in
      let tail : ns ≡ v ∷ rest = cc in
      let other : b ≡ v = cc (next.1, tail) in
      let from : Edge part u b = subst (λ (z : ℕ). Edge part z b) same e in
      subst (λ (z : ℕ). Edge part u z) other from

  -- a segment of the part is one of the whole
  segment_in : (h last : ℕ) (ns seg : List ℕ) → Walk part 0 last ns → IsSegment part h ns seg → IsSegment whole h ns seg
  segment_in h last ns seg walk s = record {
    before = s.before;
    further = s.further;
    after = s.after;
    part_is = s.part_is;
    split = s.split;
    enters = λ earlier u is back. s.enters earlier u is (record { edge = edge earlier u is; dominates = dominates_in h u back.dominates });
    stays = λ u takes. back_edge_in u h (s.stays u takes);
  }
    where
      edge : (earlier : List ℕ) (u : ℕ) → s.before ≡ earlier ++ u ∷ [] → Edge part u h
      edge earlier u is =
          let rest = s.further ++ s.after in
          let split : ns ≡ s.before ++ h ∷ rest = s.split ∙ ap (λ (l : List ℕ). s.before ++ (l ++ s.after)) s.part_is in
          let whole : ns ≡ earlier ++ u ∷ h ∷ rest = split ∙ (ap (λ (l : List ℕ). l ++ h ∷ rest) is ∙ append_assoc earlier (u ∷ []) (h ∷ rest)) in
          edge_taken (walk_from walk earlier u (h ∷ rest) whole) u h rest refl

-- ---- the live graph of a method

module _ (P : Program) (m : ℕ) (E : Node → Node → Type 0) (g : Digraph) (is : IsGraphBy E P m g) where
  reachable : {u : Node} → IsReached E u → IsReachable g (number_of u)
  reachable first = (0 ∷ [], stay)
  reachable (later {u} {v} r e) =
      let w = reachable r in
      walk_on w.1 (along ((is.edges (number_of u) (number_of v)).1 (record { source = u; target = v; reached = r; edge = e; numbered = (refl, refl) })) stay)

  from_edge : (u v : ℕ) → Edge g u v → IsReachable g u
  from_edge u v e = let r = (is.edges u v).0 e in subst (λ (z : ℕ). IsReachable g z) (sym r.numbered.0) (reachable r.reached)

module _ (P : Program) (m : ℕ) where
  reached_in : {u : Node} → IsReached (IsLiveEdge P m) u → IsReached (IsEdge P m) u
  reached_in first = first
  reached_in (later {u} {v} r e) = later (reached_in r) e.edge

  edge_in : (u v : ℕ) → IsReachedEdge (IsLiveEdge P m) u v → IsReachedEdge (IsEdge P m) u v
  edge_in u v r = record { source = r.source; target = r.target; reached = reached_in r.reached; edge = r.edge.edge; numbered = r.numbered }

pub live_entries_are_entries : WalksLeadOn → DominanceIsAntisymmetric → LiveEntriesAreEntries
live_entries_are_entries leads_on antisymmetric P m whole live h most last nodes ns is_whole is_live cycles walk keeps = λ seg s.
    keeps seg (segment_in leads_on antisymmetric whole live (λ u v e. (is_whole.edges u v).1 (edge_in P m u v ((is_live.edges u v).0 e))) (from_edge P m (IsLiveEdge P m) live is_live) cycles h last ns seg walk s)

-- Back edges and loops of a part of a reducible graph are those of the whole.
use Rattle.std.proofs.Common.{◌≡◌, ℕ, ◌<◌, ◌⊎◌, List, [], ◌∷◌, ◌++◌, map, Contains, refl, sym, ap, ◌∙◌, subst, inl, inr, append_assoc}
use Rattle.std.proofs.lemmas.List.Elements.{Contains-append_right}
use Rattle.lists.specs.Members.{at_head}
use Rattle.loop_nest.specs.Digraph.{Digraph, IsDigraph}
use Rattle.loop_nest.specs.Walks.{Walk, Dominates, IsBackEdge}
use Rattle.loop_nest.specs.Parts.{IsReachedPart}
use Rattle.loop_nest.specs.Laws.{PartsHaveBackEdges, PartsHaveHeaders, PartsHaveMembers}
use Rattle.loop_nest.proofs.Elements.{from_map}
use Rattle.loop_nest.proofs.Around.{joined, around_from, not_around, dominates_from}
use Rattle.loop_nest.proofs.WalkParts.{dominates_both, leads_on}
use Rattle.loop_nest.proofs.SimpleWalks.{VisitsOnce, SimpleWalk, simple_walk, begins, walk_until, walk_from, not_in_both}
use Rattle.loop_nest.proofs.Ends.{ends_within, visited_within, cycles_take_back_edges}
use Rattle.loop_nest.proofs.Parts.{mapped_walk}

-- where two neighbours of a mapped list come from
record Splits (f : ℕ → ℕ) (a k : ℕ) (ns : List ℕ) : Type 0 where
  before : List ℕ
  source : ℕ
  target : ℕ
  after : List ℕ
  is : ns ≡ before ++ source ∷ target ∷ after
  source_is : f source ≡ a
  target_is : f target ≡ k

split_of : (f : ℕ → ℕ) (a k : ℕ) (ns before after : List ℕ) → map f ns ≡ before ++ a ∷ k ∷ after → Splits f a k ns
split_of f a k [] [] after is = let bad : ⊥ = cc in absurd bad
split_of f a k [] (b ∷ bs) after is = let bad : ⊥ = cc in absurd bad
split_of f a k (n ∷ []) [] after is = let bad : ⊥ = cc in absurd bad
split_of f a k (n ∷ m ∷ ns) [] after is = record { before = []; source = n; target = m; after = ns; is = refl; source_is = cc; target_is = cc }
split_of f a k (n ∷ ns) (b ∷ bs) after is =
    let s = split_of f a k ns bs after cc in
    record { before = n ∷ s.before; source = s.source; target = s.target; after = s.after; is = cc (s.is); source_is = s.source_is; target_is = s.target_is }

first_has : (h : ℕ) (rest before : List ℕ) (a : ℕ) (after : List ℕ) → h ∷ rest ≡ before ++ a ∷ after → Contains (before ++ a ∷ []) h
first_has h rest [] a after is = let P : ℕ → Type 0 = λ z. Contains (a ∷ []) z in let same : a ≡ h = cc in subst P same (at_head a [])
first_has h rest (b ∷ bs) a after is = let P : ℕ → Type 0 = λ z. Contains (b ∷ (bs ++ a ∷ [])) z in let same : b ≡ h = cc in subst P same (at_head b (bs ++ a ∷ []))

module _ (whole part : Digraph) (f : ℕ → ℕ) (wf : IsDigraph part) (p : IsReachedPart whole part f) where
  -- a node among others of the part is one of them where the whole has it among them
  same_node : {u v : ℕ} {ns : List ℕ} (x : ℕ) → Walk part u v ns → v < part.nodes → x < part.nodes → Contains (map f ns) (f x) → Contains ns x
  same_node {u} {v} {ns} x w lv lx has =
      let r = from_map f ns (f x) has in
      let same = p.distinct r.0 x (visited_within wf w lv r.0 r.1) lx r.2 in
      let P : ℕ → Type 0 = λ z. Contains ns z in
      subst P same r.1

  -- what dominates in the whole dominates in the part
  dominates_in_part : (x h : ℕ) → x < part.nodes → h < part.nodes → Dominates whole (f x) (f h) → Dominates part x h
  dominates_in_part x h lx lh d ns w =
      let P : ℕ → Type 0 = λ z. Walk whole z (f h) (map f ns) in
      same_node x w lh lx (d (map f ns) (subst P p.entry (mapped_walk {whole = whole} {part = part} f p.edges w)))

  -- a walk from the target of a back edge to its source that visits no node twice takes no back edge of the whole
  no_later : (u h : ℕ) → IsBackEdge part u h → (s : SimpleWalk part h u) → (a k : ℕ) → IsBackEdge whole a k → Splits f a k s.nodes → ⊥
  no_later u h b s a k back t =
      let ends = ends_within wf u h b.edge in
      let first = t.before ++ t.source ∷ [] in
      let last = t.target ∷ t.after in
      let parts : s.nodes ≡ first ++ last = t.is ∙ simp append_assoc in
      let P : List ℕ → Type 0 = λ zs. VisitsOnce zs in
      let once = subst P parts s.once in
      let to_source = walk_until s.walk t.before t.source (t.target ∷ t.after) t.is in
      let from_target = walk_from s.walk first t.target t.after parts in
      let source_below = visited_within wf s.walk ends.0 t.source (let Q : List ℕ → Type 0 = λ zs. Contains zs t.source in subst Q (sym t.is) (Contains-append_right t.before (t.source ∷ last) t.source (at_head t.source last))) in
      let target_below = visited_within wf from_target ends.0 t.target (at_head t.target t.after) in
      let apart_from : Contains (map f first) (f t.target) → ⊥ = λ c. not_in_both first last t.target once (same_node t.target to_source source_below target_below c) (at_head t.target t.after) in
      let way = around_from (mapped_walk {whole = whole} {part = part} f p.edges to_source) apart_from in
      let D : ℕ → ℕ → Type 0 = λ y z. Dominates whole y z in
      let E : ℕ → Type 0 = λ y. Dominates whole y a in
      let F : ℕ → Type 0 = λ z. Dominates whole (f t.target) z in
      let over : Dominates whole (f t.target) (f t.source) = subst F (sym t.source_is) (subst E (sym t.target_is) back.dominates) in
      let outer = dominates_in_part t.target h target_below ends.1 (dominates_from (λ around. not_around over (joined around way))) in
      let heads = begins s.walk in
      let at_first = first_has h heads.0 t.before t.source last (sym heads.1 ∙ t.is) in
      let never : Contains last h → ⊥ = λ c. not_in_both first last h once at_first c in
      let inner = dominates_from (λ around. not_around b.dominates (joined around (around_from from_target never))) in
      let same = dominates_both part h t.target (p.reached h ends.1) inner outer in
      let R : ℕ → Type 0 = λ z. Contains last z in
      never (subst R (sym same) (at_head t.target t.after))

first_or_later : (x : ℕ) (ns before : List ℕ) (a k : ℕ) (after : List ℕ) → x ∷ ns ≡ before ++ a ∷ k ∷ after → ((a ≡ x) × (ns ≡ k ∷ after)) ⊎ ((earlier : List ℕ) × (ns ≡ earlier ++ a ∷ k ∷ after))
first_or_later x ns [] a k after is = inl (cc, cc)
first_or_later x ns (b ∷ bs) a k after is = inr (bs, cc)

pub part_has_back_edge : PartsHaveBackEdges
part_has_back_edge whole part f wf_whole l wf p u h b =
    let ends = ends_within wf u h b.edge in
    let r = p.reached u ends.0 in
    let s = simple_walk (leads_on h r.1 (b.dominates r.0 r.1)).1 in
    let c = cycles_take_back_edges whole wf_whole l (f u) (f h) (map f s.nodes) (p.edges u h b.edge) (mapped_walk {whole = whole} {part = part} f p.edges s.walk) in
    elim (first_or_later (f u) (map f s.nodes) c.2.0 c.0 c.1 c.2.1 c.2.2) [
      | inl at ↦
          let heads = begins s.walk in
          let same : c.1 ≡ f h = cc (ap (map f) heads.1, at.1) in
          let P : ℕ → Type 0 = λ y. IsBackEdge whole y c.1 in
          let Q : ℕ → Type 0 = λ z. IsBackEdge whole (f u) z in
          subst Q same (subst P at.0 c.3)
      | inr later ↦ absurd (no_later whole part f wf p u h b s c.0 c.1 c.3 (split_of f c.0 c.1 s.nodes later.0 c.2.1 later.1))
    ]

pub part_has_header : PartsHaveHeaders
part_has_header whole part f wf_whole l wf p h header = (f header.0, part_has_back_edge whole part f wf_whole l wf p header.0 h header.1)

pub part_has_member : PartsHaveMembers
part_has_member whole part f wf_whole l wf p h x m = (
  part_has_header whole part f wf_whole l wf p h m.0,
  elim (m.1) [
    | inl same ↦ inl (ap f same)
    | inr r ↦
        let ends = ends_within wf r.source h r.back_edge.edge in
        inr (record {
          source = f r.source;
          back_edge = part_has_back_edge whole part f wf_whole l wf p r.source h r.back_edge;
          leads = (map f r.leads.0, mapped_walk {whole = whole} {part = part} f p.edges r.leads.1, λ c. r.leads.2 (same_node whole part f wf p h r.leads.1 ends.0 ends.1 c));
        })
  ],
)

-- Walks, headers and members of a graph whose nodes are numbered anew without gaps.
use Rattle.std.proofs.Common.{◌≡◌, ℕ, ◌+◌, ◌<◌, List, [], ◌∷◌, ◌++◌, length, get_or, map, All, Contains, Option, Some, None, refl, sym, ap, ap₂, ◌∙◌, subst, inl, inr, arith}
use Rattle.std.specs.Prelude.{MatchOption}
use Rattle.std.specs.List.Sorted.{IsStrictlyIncreasing}
use Rattle.std.proofs.lemmas.Bool.{cases_order}
use Rattle.std.proofs.lemmas.List.{length-map, get_or-map}
use Rattle.std.proofs.lemmas.List.Elements.{All-get_or, All-contains, All-contains_itself, All-map, All-weaker}
use Rattle.std.proofs.lemmas.Simd.{map-map}
use Rattle.lists.specs.Members.{cons_cases, nil_contains, map_contains}
use Rattle.loop_nest.specs.Digraph.{Digraph, Edge}
use Rattle.loop_nest.specs.Walks.{Walk, Dominates, LeadsAround, IsReachable, IsBackEdge, IsHeader, ReachesBackEdge, IsMember}
use Rattle.loop_nest.specs.Walks.Walk.{stay, along}
use Rattle.loop_nest.specs.Nest.{NaturalLoop, headers_of, header_at, members_at, outers_of, outer_at, IsLoopOf, IsAround, IsOutermost, IsNextOuter, IsNest}
use Rattle.loop_nest.proofs.Elements.{from_map}
use Rattle.bytecode_model.specs.Program.{Program}
use Rattle.method_flow.specs.Nodes.{Node, number_of, IsEdge, IsReached}
use Rattle.method_flow.specs.Nodes.IsReached.{first, later}
use Rattle.method_flow.specs.Live.{IsLiveEdge}
use Rattle.method_flow.specs.Compact.{IsCompact}
use Rattle.method_flow.specs.Graphs.{IsGraphBy}
use Rattle.flow_graph.specs.Where.{IsEdgeWhere}
use Rattle.bound_causes.specs.Laws.{LeadsFromReached, MethodGraphsAreReached, CompactKeepsHeaders, CompactKeepsMembers, moved_loop, CompactKeepsNests}

walk_on : {g : Digraph} {u v w : ℕ} {ns : List ℕ} → Walk g u v ns → Edge g v w → Walk g u w (ns ++ w ∷ [])
walk_on stay e = along e stay
walk_on (along e' more) e = along e' (walk_on more e)

-- ---- graphs of methods

module _ (IsEdgeIn : Node → Node → Type 0) (P : Program) (m : ℕ) (g : Digraph) (graph : IsGraphBy IsEdgeIn P m g) where
  reachable : {u : Node} → IsReached IsEdgeIn u → IsReachable g (number_of u)
  reachable first = (0 ∷ [], stay)
  reachable (later {u} {v} reached e) =
      let before = reachable reached in
      let edge : Edge g (number_of u) (number_of v) = (graph.edges (number_of u) (number_of v)).1 (record { source = u; target = v; reached = reached; edge = e; numbered = (refl, refl) }) in
      (before.0 ++ number_of v ∷ [], walk_on before.1 edge)

  leads_from_reached : LeadsFromReached g
  leads_from_reached u v e = let r = (graph.edges u v).0 e in let Q : ℕ → Type 0 = λ x. IsReachable g x in subst Q (sym r.numbered.0) (reachable r.reached)

pub method_graphs_are_reached : MethodGraphsAreReached
method_graphs_are_reached P m calls goes g (inl graph) = leads_from_reached (IsEdge P m) P m g graph
method_graphs_are_reached P m calls goes g (inr (inl live)) = leads_from_reached (IsLiveEdge P m) P m g live
method_graphs_are_reached P m calls goes g (inr (inr where')) = leads_from_reached (IsEdgeWhere P m calls goes) P m g where'

-- ---- walks under other numbers

module _ (g d : Digraph) (node : ℕ → ℕ) (c : IsCompact g d node) where
  injective : (u v : ℕ) → u < d.nodes → v < d.nodes → node u ≡ node v → u ≡ v
  injective u v lu lv same =
      elim (cases_order u v) [
        | inl equal ↦ equal
        | inr apart ↦
            elim apart [
              | inl lt ↦ let up = c.rising u v lv lt in absurd (omega arith)
              | inr gt ↦ let up = c.rising v u lu gt in absurd (omega arith)
            ]
      ]

  mapped : {u v : ℕ} {ns : List ℕ} → Walk d u v ns → Walk g (node u) (node v) (map node ns)
  mapped stay = stay
  mapped (along {u} {v} e more) = along ((c.edges u v).0 e).2 (mapped more)

  visited : {u v : ℕ} {ns : List ℕ} → Walk d u v ns → u < d.nodes → (x : ℕ) → Contains ns x → x < d.nodes
  visited {u} stay below x has =
      elim (cons_cases u x [] has) [ inl same ↦ (let Q : ℕ → Type 0 = λ y. y < d.nodes in subst Q same below) | inr never ↦ absurd (nil_contains x never) ]
  visited (along {u} {v} {w} {ns} e more) below x has =
      elim (cons_cases u x ns has) [
        | inl same ↦ (let Q : ℕ → Type 0 = λ y. y < d.nodes in subst Q same below)
        | inr there ↦ visited more ((c.edges u v).0 e).1 x there
      ]

  reached_node : (u : ℕ) → u < d.nodes → IsReachable g (node u)
  reached_node u below = let r = c.reached u below in let Q : ℕ → Type 0 = λ x. Walk g x (node u) (map node r.0) in (map node r.0, subst Q c.entry (mapped r.1))

  -- a walk of the other graph that begins at a node of this one
  record Lifted (u y : ℕ) (ms : List ℕ) : Type 0 where
    last : ℕ
    below : last < d.nodes
    is : node last ≡ y
    nodes : List ℕ
    walk : Walk d u last nodes
    same : map node nodes ≡ ms

  lifted : {x y : ℕ} {ms : List ℕ} → Walk g x y ms → (u : ℕ) → u < d.nodes → node u ≡ x → Lifted u y ms
  lifted stay u below is = record { last = u; below = below; is = is; nodes = u ∷ []; walk = stay; same = ap (λ (z : ℕ). z ∷ []) is }
  lifted (along {u = x} {v = z} edge more) u below is =
      let S : ℕ → Type 0 = λ y. Edge g y z in
      let from = subst S (sym is) edge in
      let r = reached_node u below in
      let there = c.all z (r.0 ++ z ∷ [], walk_on r.1 from) in
      let T : ℕ → Type 0 = λ y. Edge g (node u) y in
      let to = subst T (sym there.2) from in
      let rest = lifted more there.0 there.1 there.2 in
      record {
        last = rest.last;
        below = rest.below;
        is = rest.is;
        nodes = u ∷ rest.nodes;
        walk = along ((c.edges u there.0).1 (below, there.1, to)) rest.walk;
        same = ap₂ (λ (y : ℕ) (ys : List ℕ). y ∷ ys) is rest.same;
      }

  dominates_there : (h u : ℕ) → u < d.nodes → Dominates d h u → Dominates g (node h) (node u)
  dominates_there h u below dominates ms w =
      let l = lifted w 0 c.digraph.entry c.entry in
      let end = injective l.last u l.below below l.is in
      let W : ℕ → Type 0 = λ x. Walk d 0 x l.nodes in
      let Q : List ℕ → Type 0 = λ xs. Contains xs (node h) in
      subst Q l.same (map_contains node l.nodes h (dominates l.nodes (subst W end l.walk)))

  dominates_here : (h u : ℕ) → h < d.nodes → Dominates g (node h) (node u) → Dominates d h u
  dominates_here h u below dominates ns w =
      let W : ℕ → Type 0 = λ x. Walk g x (node u) (map node ns) in
      let r = from_map node ns (node h) (dominates (map node ns) (subst W c.entry (mapped w))) in
      let same = injective r.0 h (visited w c.digraph.entry r.0 r.1) below r.2 in
      let Q : ℕ → Type 0 = λ x. Contains ns x in
      subst Q same r.1

  -- ---- headers

  back_edge_there : (u h : ℕ) → IsBackEdge d u h → IsBackEdge g (node u) (node h)
  back_edge_there u h b = let e = (c.edges u h).0 b.edge in record { edge = e.2; dominates = dominates_there h u e.0 b.dominates }

  back_edge_here : (u h : ℕ) → u < d.nodes → h < d.nodes → IsBackEdge g (node u) (node h) → IsBackEdge d u h
  back_edge_here u h lu lh b = record { edge = (c.edges u h).1 (lu, lh, b.edge); dominates = dominates_here h u lh b.dominates }

  header_there : (h : ℕ) → IsHeader d h → IsHeader g (node h)
  header_there h (u, b) = (node u, back_edge_there u h b)

  module _ (from : LeadsFromReached g) where
    -- a node with an edge, and the node to which it leads
    record Ends (x y : ℕ) : Type 0 where
      source : ℕ
      source_below : source < d.nodes
      source_is : node source ≡ x
      target : ℕ
      target_below : target < d.nodes
      target_is : node target ≡ y

    ends : (x y : ℕ) → Edge g x y → Ends x y
    ends x y e =
        let r = from x y e in
        let s = c.all x r in
        let t = c.all y (r.0 ++ y ∷ [], walk_on r.1 e) in
        record { source = s.0; source_below = s.1; source_is = s.2; target = t.0; target_below = t.1; target_is = t.2 }

    back_edge_from : (x y : ℕ) → IsBackEdge g x y → (e : Ends x y) → IsBackEdge d e.source e.target
    back_edge_from x y b e =
        let S : ℕ → Type 0 = λ z. IsBackEdge g z y in
        let T : ℕ → Type 0 = λ z. IsBackEdge g (node e.source) z in
        back_edge_here e.source e.target e.source_below e.target_below (subst T (sym e.target_is) (subst S (sym e.source_is) b))

    header_here : (x : ℕ) → IsHeader g x → (h : ℕ) × (h < d.nodes) × IsHeader d h × (node h ≡ x)
    header_here x (u, b) = let e = ends u x b.edge in (e.target, e.target_below, (e.source, back_edge_from u x b e), e.target_is)

    pub headers_are : (x : ℕ) → ((IsHeader g x → (h : ℕ) × (h < d.nodes) × IsHeader d h × (node h ≡ x)) × (((h : ℕ) × (h < d.nodes) × IsHeader d h × (node h ≡ x)) → IsHeader g x))
    headers_are x = (header_here x, λ r. let Q : ℕ → Type 0 = λ y. IsHeader g y in subst Q r.3 (header_there r.0 r.2))

    -- ---- members

    around_there : (h u v : ℕ) → h < d.nodes → u < d.nodes → LeadsAround d h u v → LeadsAround g (node h) (node u) (node v)
    around_there h u v lh lu (ns, w, never) = (
      map node ns,
      mapped w,
      λ has.
          let r = from_map node ns (node h) has in
          let same = injective r.0 h (visited w lu r.0 r.1) lh r.2 in
          let Q : ℕ → Type 0 = λ x. Contains ns x in
          never (subst Q same r.1),
    )

    member_there : (h u : ℕ) → h < d.nodes → u < d.nodes → IsMember d h u → IsMember g (node h) (node u)
    member_there h u lh lu m = (
      header_there h m.0,
      elim (m.1) [
        | inl same ↦ inl (ap node same)
        | inr r ↦ inr (record { source = node r.source; back_edge = back_edge_there r.source h r.back_edge; leads = around_there h u r.source lh lu r.leads })
      ],
    )

    start_reached : {x y : ℕ} {ms : List ℕ} → Walk g x y ms → IsReachable g y → IsReachable g x
    start_reached stay r = r
    start_reached (along {u = x} {v = z} e more) r = from x z e

    header_same : (h : ℕ) → h < d.nodes → IsHeader g (node h) → IsHeader d h
    header_same h below header =
        let r = header_here (node h) header in
        let Q : ℕ → Type 0 = λ x. IsHeader d x in
        subst Q (injective r.0 h r.1 below r.3) r.2

    source_here : (h x : ℕ) → h < d.nodes → ReachesBackEdge g (node h) x → (u : ℕ) × (u < d.nodes) × ReachesBackEdge d h u × (node u ≡ x)
    source_here h x below r =
        let e = ends r.source (node h) r.back_edge.edge in
        let back = back_edge_from r.source (node h) r.back_edge e in
        let at = c.all x (start_reached r.leads.1 (from r.source (node h) r.back_edge.edge)) in
        let l = lifted r.leads.1 at.0 at.1 at.2 in
        let end : e.source ≡ l.last = injective e.source l.last e.source_below l.below (e.source_is ∙ sym l.is) in
        let head : e.target ≡ h = injective e.target h e.target_below below e.target_is in
        let S : ℕ → Type 0 = λ z. IsBackEdge d z e.target in
        let T : ℕ → Type 0 = λ z. IsBackEdge d l.last z in
        let never : Contains l.nodes h → ⊥ = λ has. r.leads.2 (let Q : List ℕ → Type 0 = λ xs. Contains xs (node h) in subst Q l.same (map_contains node l.nodes h has)) in
        (at.0, at.1, record { source = l.last; back_edge = subst T head (subst S end back); leads = (l.nodes, l.walk, never) }, at.2)

    member_here : (h x : ℕ) → h < d.nodes → IsMember g (node h) x → (u : ℕ) × (u < d.nodes) × IsMember d h u × (node u ≡ x)
    member_here h x below m =
        let header = header_same h below m.0 in
        elim (m.1) [
          | inl same ↦ (h, below, (header, inl refl), sym same)
          | inr r ↦ let s = source_here h x below r in (s.0, s.1, (header, inr s.2), s.3)
        ]

    -- ---- nests

    member_below : (h u : ℕ) → h < d.nodes → IsMember d h u → u < d.nodes
    member_below h u below m =
        elim (m.1) [
          | inl same ↦ (let Q : ℕ → Type 0 = λ x. x < d.nodes in subst Q (sym same) below)
          | inr r ↦ starts_below r.leads.1 ((c.edges r.source h).0 r.back_edge.edge).0
        ]
      where
        starts_below : {x y : ℕ} {ns : List ℕ} → Walk d x y ns → y < d.nodes → x < d.nodes
        starts_below stay end = end
        starts_below (along {u = x} {v = z} e more) end = ((c.edges x z).0 e).0

    header_below : (h : ℕ) → IsHeader d h → h < d.nodes
    header_below h (u, b) = ((c.edges u h).0 b.edge).1

    moved_rises : (xs : List ℕ) → All (λ x. x < d.nodes) xs → IsStrictlyIncreasing xs → IsStrictlyIncreasing (map node xs)
    moved_rises xs below rising k lt =
        let long = length-map xs node in
        let here = get_or-map node xs k 0 0 (omega arith) in
        let next = get_or-map node xs (k + 1) 0 0 (omega arith) in
        let up = c.rising (get_or xs k 0) (get_or xs (k + 1) 0) (All-get_or (λ (x : ℕ). x < d.nodes) xs (k + 1) 0 (omega arith) below) (rising k (omega arith)) in
        omega arith

    moved_contains : (xs : List ℕ) (x : ℕ) → All (λ y. y < d.nodes) xs → x < d.nodes → Contains (map node xs) (node x) → Contains xs x
    moved_contains xs x below lt has =
        let r = from_map node xs (node x) has in
        let same = injective r.0 x (All-contains (λ (y : ℕ). y < d.nodes) xs r.0 below r.1) lt r.2 in
        let Q : ℕ → Type 0 = λ y. Contains xs y in
        subst Q same r.1

    module _ (ls : List NaturalLoop) (nest : IsNest d ls) where
      loop_below : (l : NaturalLoop) → IsLoopOf d l → All (λ x. x < d.nodes) l.members
      loop_below l is = All-weaker (Contains l.members) (λ (x : ℕ). x < d.nodes) (λ x has. member_below l.header x (header_below l.header is.header) ((is.members x).0 has)) l.members (All-contains_itself l.members)

      moved_is : (l : NaturalLoop) → IsLoopOf d l → IsLoopOf g (moved_loop node l)
      moved_is l is = record {
        header = header_there l.header is.header;
        rising = moved_rises l.members (loop_below l is) is.rising;
        members = λ x. (
          λ has.
              let r = from_map node l.members x has in
              let m = (is.members r.0).0 r.1 in
              let below = header_below l.header is.header in
              let Q : ℕ → Type 0 = λ y. IsMember g (node l.header) y in
              subst Q r.2 (member_there l.header r.0 below (member_below l.header r.0 below m) m),
          λ m.
              let r = member_here l.header x (header_below l.header is.header) m in
              let Q : ℕ → Type 0 = λ y. Contains (map node l.members) y in
              subst Q r.3 (map_contains node l.members r.0 ((is.members r.0).1 r.2)),
        );
      }

      headers_moved : headers_of (map (moved_loop node) ls) ≡ map node (headers_of ls)
      headers_moved = map-map (λ (l : NaturalLoop). l.header) (moved_loop node) ls ∙ sym (map-map node (λ (l : NaturalLoop). l.header) ls)

      all_headers : All (λ h. h < d.nodes) (headers_of ls)
      all_headers = All-map (λ (h : ℕ). h < d.nodes) (λ (l : NaturalLoop). l.header) ls (All-weaker (IsLoopOf d) (λ (l : NaturalLoop). l.header < d.nodes) (λ l is. header_below l.header is.header) ls nest.loops)

      -- by the number of a loop
      header_moved : (i : ℕ) → i < length ls → header_at (map (moved_loop node) ls) i ≡ node (header_at ls i)
      header_moved i lt =
          let long : i < length (headers_of ls) = let n = length-map ls (λ (l : NaturalLoop). l.header) in omega arith in
          ap (λ (xs : List ℕ). get_or xs i 0) headers_moved ∙ get_or-map node (headers_of ls) i 0 0 long

      members_moved : (i : ℕ) → i < length ls → members_at (map (moved_loop node) ls) i ≡ map node (members_at ls i)
      members_moved i lt =
          let long : i < length (map (λ (l : NaturalLoop). l.members) ls) = let n = length-map ls (λ (l : NaturalLoop). l.members) in omega arith in
          let lists : map (λ (l : NaturalLoop). l.members) (map (moved_loop node) ls) ≡ map (map node) (map (λ (l : NaturalLoop). l.members) ls) =
          map-map (λ (l : NaturalLoop). l.members) (moved_loop node) ls ∙ sym (map-map (map node) (λ (l : NaturalLoop). l.members) ls) in
          ap (λ (xs : List (List ℕ)). get_or xs i []) lists ∙ get_or-map (map node) (map (λ (l : NaturalLoop). l.members) ls) i [] [] long

      outers_moved : outers_of (map (moved_loop node) ls) ≡ outers_of ls
      outers_moved = map-map (λ (l : NaturalLoop). l.outer) (moved_loop node) ls

      header_at_below : (i : ℕ) → i < length ls → header_at ls i < d.nodes
      header_at_below i lt = let n = length-map ls (λ (l : NaturalLoop). l.header) in All-get_or (λ (h : ℕ). h < d.nodes) (headers_of ls) i 0 (omega arith) all_headers

      members_at_below : (i : ℕ) → i < length ls → All (λ x. x < d.nodes) (members_at ls i)
      members_at_below i lt =
          let n = length-map ls (λ (l : NaturalLoop). l.members) in
          All-get_or (All (λ (x : ℕ). x < d.nodes)) (map (λ (l : NaturalLoop). l.members) ls) i [] (omega arith)
          (All-map (All (λ (x : ℕ). x < d.nodes)) (λ (l : NaturalLoop). l.members) ls (All-weaker (IsLoopOf d) (λ (l : NaturalLoop). All (λ (x : ℕ). x < d.nodes) l.members) loop_below ls nest.loops))

      contains_moved : (i k : ℕ) → i < length ls → k < length ls → Contains (members_at ls k) (header_at ls i) → Contains (members_at (map (moved_loop node) ls) k) (header_at (map (moved_loop node) ls) i)
      contains_moved i k li lk has =
          let Q : List ℕ → Type 0 = λ xs. Contains xs (header_at (map (moved_loop node) ls) i) in
          let R : ℕ → Type 0 = λ x. Contains (map node (members_at ls k)) x in
          subst Q (sym (members_moved k lk)) (subst R (sym (header_moved i li)) (map_contains node (members_at ls k) (header_at ls i) has))

      contains_back : (i k : ℕ) → i < length ls → k < length ls → Contains (members_at (map (moved_loop node) ls) k) (header_at (map (moved_loop node) ls) i) → Contains (members_at ls k) (header_at ls i)
      contains_back i k li lk has =
          let Q : List ℕ → Type 0 = λ xs. Contains xs (header_at (map (moved_loop node) ls) i) in
          let R : ℕ → Type 0 = λ x. Contains (map node (members_at ls k)) x in
          moved_contains (members_at ls k) (header_at ls i) (members_at_below k lk) (header_at_below i li) (subst R (header_moved i li) (subst Q (members_moved k lk) has))

      long_moved : length (map (moved_loop node) ls) ≡ length ls
      long_moved = length-map ls (moved_loop node)

      around_moved : (i k : ℕ) → i < length ls → IsAround ls i k → IsAround (map (moved_loop node) ls) i k
      around_moved i k li a = let long = long_moved in let lk = a.below in record { below = omega arith; other = a.other; member = contains_moved i k li lk a.member }

      around_back : (i k : ℕ) → i < length ls → IsAround (map (moved_loop node) ls) i k → IsAround ls i k
      around_back i k li a = let long = long_moved in let below = a.below in let lk : k < length ls = omega arith in record { below = lk; other = a.other; member = contains_back i k li lk a.member }

      outer_moved : (i : ℕ) → i < length ls → (o : Option ℕ) → MatchOption o (IsOutermost ls i) (IsNextOuter ls i) → MatchOption o (IsOutermost (map (moved_loop node) ls) i) (IsNextOuter (map (moved_loop node) ls) i)
      outer_moved i li None none = λ k a. none k (around_back i k li a)
      outer_moved i li (Some j) is = record {
        around = around_moved i j li is.around;
        next = λ k a. let b = around_back i k li a in contains_moved j k is.around.below b.below (is.next k b);
      }

      moved_nest : IsNest g (map (moved_loop node) ls)
      moved_nest = record {
        rising = let Q : List ℕ → Type 0 = λ xs. IsStrictlyIncreasing xs in subst Q (sym headers_moved) (moved_rises (headers_of ls) all_headers nest.rising);
        loops = All-map (IsLoopOf g) (moved_loop node) ls (All-weaker (IsLoopOf d) (λ (l : NaturalLoop). IsLoopOf g (moved_loop node l)) moved_is ls nest.loops);
        complete = λ x header.
            let r = header_here x header in
            let Q : List ℕ → Type 0 = λ xs. Contains xs x in
            let R : ℕ → Type 0 = λ y. Contains (map node (headers_of ls)) y in
            subst Q (sym headers_moved) (subst R r.3 (map_contains node (headers_of ls) r.0 (nest.complete r.0 r.2)));
        outer = λ i lt.
            let long = long_moved in
            let li : i < length ls = omega arith in
            let Q : Option ℕ → Type 0 = λ o. MatchOption o (IsOutermost (map (moved_loop node) ls) i) (IsNextOuter (map (moved_loop node) ls) i) in
            let same : outer_at (map (moved_loop node) ls) i ≡ outer_at ls i = ap (λ (os : List (Option ℕ)). get_or os i None) outers_moved in
            subst Q (sym same) (outer_moved i li (outer_at ls i) (nest.outer i li));
      }

pub compact_keeps_headers : CompactKeepsHeaders
compact_keeps_headers g d node from c x = headers_are g d node c from x

pub compact_keeps_members : CompactKeepsMembers
compact_keeps_members g d node from c h below x = (
  member_here g d node c from h x below,
  λ r. let Q : ℕ → Type 0 = λ y. IsMember g (node h) y in subst Q r.3 (member_there g d node c from h r.0 below r.1 r.2),
)

pub compact_keeps_nests : CompactKeepsNests
compact_keeps_nests g d node ls from c nest = moved_nest g d node c from ls nest

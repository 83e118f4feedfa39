-- The shape of a compact graph is that of the method's graph.
use Rattle.std.proofs.Common.{◌≡◌, ℕ, ◌+◌, ◌*◌, ◌/◌, ◌<◌, List, [], ◌∷◌, get_or, map, Contains, refl, sym, ◌∙◌, subst, inl, arith}
use Rattle.std.specs.Prelude.{slice_index}
use Rattle.std.specs.List.Sorted.{IsStrictlyIncreasing}
use Rattle.std.proofs.lemmas.List.{get_or-map, length-map}
use Rattle.std.proofs.lemmas.List.Elements.{All-contains}
use Rattle.lists.specs.Members.{contains_at, map_contains}
use Rattle.loop_nest.specs.Digraph.{Digraph, IsDigraph}
use Rattle.loop_nest.specs.Walks.{IsHeader}
use Rattle.loop_nest.specs.Reduction.{Leaves}
use Rattle.loop_nest.specs.Nest.{NaturalLoop, headers_of, IsLoopOf, IsNest}
use Rattle.loop_nest.proofs.Elements.{from_map}
use Rattle.bytecode_model.specs.Program.{Program}
use Rattle.method_flow.specs.Graphs.{IsGraphOf}
use Rattle.flow_graph.specs.Numbering.{IsCompactOf}
use Rattle.flow_graph.specs.declared.numbering.Compact.{Compact}
use Rattle.bound_rules.specs.Bounding.{IsLeftWith}
use Rattle.bound_rules.specs.Laws.{GraphsAreOne, HeadersAreInstructions}
use Rattle.bound_causes.specs.declared.shapes.Shape.{Shape}
use Rattle.bound_causes.specs.declared.shapes.Shape.TheVariants.{Irreducible, Reducible}
use Rattle.bound_causes.specs.Headers.{HeadsLoop, AreHeaderPlaces}
use Rattle.bound_causes.specs.Shapes.{IsShape, AreHeaded, IsCompactShape}
use Rattle.bound_causes.specs.Laws.{LeadsFromReached, MethodGraphsAreReached, CompactKeepsHeaders}

-- ---- headers are nodes

header_below : (d : Digraph) → IsDigraph d → (h : ℕ) → IsHeader d h → h < d.nodes
header_below d digraph h (u, b) = (All-contains (λ (e : ℕ × ℕ). (e.0 < d.nodes) × (e.1 < d.nodes)) d.edges (u, h) digraph.edges.ends b.edge).1

header_among : (d : Digraph) (ls : List NaturalLoop) → IsNest d ls → (h : ℕ) → Contains (headers_of ls) h → IsHeader d h
header_among d ls nest h has =
    let r = from_map (λ (l : NaturalLoop). l.header) ls h has in
    let Q : ℕ → Type 0 = λ x. IsHeader d x in
    subst Q r.2 (All-contains (IsLoopOf d) ls r.0 nest.loops r.1).header

-- ---- lists

none_mapped : (f : ℕ → ℕ) (xs : List ℕ) → map f xs ≡ [] → xs ≡ []
none_mapped f [] e = refl
none_mapped f (x ∷ xs) e = absurd (cc)

rising_mapped : (f : ℕ → ℕ) (xs : List ℕ) → IsStrictlyIncreasing xs → ((a b : ℕ) → Contains xs a → Contains xs b → a < b → f a < f b) → IsStrictlyIncreasing (map f xs)
rising_mapped f xs rising up k below =
    let long = length-map xs f in
    let first = get_or-map f xs k 0 0 (omega arith) in
    let next = get_or-map f xs (k + 1) 0 0 (omega arith) in
    let lt = up (get_or xs k 0) (get_or xs (k + 1) 0) (contains_at xs k (get_or xs k 0) (omega arith) refl) (contains_at xs (k + 1) (get_or xs (k + 1) 0) (omega arith) refl) (rising k (omega arith)) in
    omega arith

-- ---- the method's graph

module _ (one : GraphsAreOne) (even : HeadersAreInstructions) (reach : MethodGraphsAreReached) (keeps : CompactKeepsHeaders) (P : Program) (n : ℕ) (g : Digraph) (graph : IsGraphOf P n g) (c : Compact) (is : IsCompactOf g c) where
  from : LeadsFromReached g
  from = reach P n [] [] g (inl graph)

  left_with : (left nodes : List ℕ) → Leaves c.graph left → nodes ≡ map (slice_index c.nodes) left → IsLeftWith P n nodes
  left_with left nodes leaves are = record { graph = g; is_graph = graph; compact = c.graph; node = slice_index c.nodes; is_compact = is.compact; left = left; leaves = leaves; nodes_are = are }

  module _ (places : List ℕ) (a : AreHeaded c.graph c.nodes places) where
    -- a header of the compact graph is an instruction of the method
    header_of : (h : ℕ) → Contains (headers_of a.loops) h → IsHeader g (slice_index c.nodes h)
    header_of h has =
        let header = header_among c.graph a.loops a.nest h has in
        (keeps g c.graph (slice_index c.nodes) from is.compact (slice_index c.nodes h)).1 (h, header_below c.graph is.compact.digraph h header, header, refl)

    node_is : (h : ℕ) → Contains (headers_of a.loops) h → slice_index c.nodes h ≡ 2 * (slice_index c.nodes h / 2)
    node_is h has = let e = even P n g (slice_index c.nodes h) (inl graph) (header_of h has) in let q = e.0 in let same = e.1 in omega arith

    to_place : (p : ℕ) → Contains places p → HeadsLoop P n p
    to_place p has =
        let Q : List ℕ → Type 0 = λ xs. Contains xs p in
        let r = from_map (λ (h : ℕ). slice_index c.nodes h / 2) (headers_of a.loops) p (subst Q a.are has) in
        let at = node_is r.0 r.1 in
        let same = r.2 in
        let node : slice_index c.nodes r.0 ≡ 2 * p = omega arith in
        let R : ℕ → Type 0 = λ x. IsHeader g x in
        record { graph = g; is_graph = graph; header = subst R node (header_of r.0 r.1) }

    from_place : (p : ℕ) → HeadsLoop P n p → Contains places p
    from_place p h =
        let G : Digraph → Type 0 = λ x. IsHeader x (2 * p) in
        let r = (keeps g c.graph (slice_index c.nodes) from is.compact (2 * p)).0 (subst G (one P n h.graph g h.is_graph graph) h.header) in
        let has = map_contains (λ (k : ℕ). slice_index c.nodes k / 2) (headers_of a.loops) r.0 (a.nest.complete r.0 r.2) in
        let node = r.3 in
        let at : slice_index c.nodes r.0 / 2 ≡ p = omega arith in
        let Q : ℕ → Type 0 = λ x. Contains (map (λ (k : ℕ). slice_index c.nodes k / 2) (headers_of a.loops)) x in
        let R : List ℕ → Type 0 = λ xs. Contains xs p in
        subst R (sym a.are) (subst Q at has)

    rising : IsStrictlyIncreasing places
    rising =
        let Q : List ℕ → Type 0 = λ xs. IsStrictlyIncreasing xs in
        subst Q (sym a.are)
        (rising_mapped (λ (h : ℕ). slice_index c.nodes h / 2) (headers_of a.loops) a.nest.rising
        (λ x y has_x has_y less.
        let below = header_below c.graph is.compact.digraph y (header_among c.graph a.loops a.nest y has_y) in
        let up = is.compact.rising x y below less in
        let first = node_is x has_x in
        let second = node_is y has_y in
        omega arith))

    headed : AreHeaderPlaces P n places
    headed = record { rising = rising; each = λ p. (to_place p, from_place p) }

  pub shape_is : (s : Shape) → IsCompactShape c.graph c.nodes s → IsShape P n s
  shape_is (Irreducible nodes) a = (left_with a.left nodes.items a.leaves a.are, λ none. a.some (none_mapped (slice_index c.nodes) a.left (sym a.are ∙ none)))
  shape_is (Reducible places) a = (left_with [] [] a.leaves refl, headed places.items a)

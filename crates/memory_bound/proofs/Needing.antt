-- The greatest walk of a method's shape makes the most words that an activation of it may make.
use Rattle.std.proofs.Common.{◌≡◌, ◌↔◌, ℕ, ◌+◌, ◌*◌, ◌<◌, ◌≤◌, ◌⊎◌, Bool, true, false, List, [], ◌∷◌, length, map, get_or, All, Contains, Option, Some, None, refl, sym, ap, ◌∙◌, subst, inl, inr, arith}
use Rattle.std.specs.Prelude.{replicate, slice_index_or, unwrap_or}
use Rattle.std.proofs.lemmas.List.{get_or-map, length-map, get_or_default}
use Rattle.std.proofs.lemmas.List.Sums.{sum_by-cons}
use Rattle.std.proofs.lemmas.List.Elements.{All-contains, Contains-push}
use Rattle.lists.specs.Members.{at_head, in_tail, cons_cases, nil_contains, map_contains}
use Rattle.lists.proofs.Lemmas.{some_same}
use Rattle.loop_nest.specs.Digraph.{Digraph}
use Rattle.loop_nest.specs.Walks.{Walk, IsHeader, IsMember, KeepsBound}
use Rattle.loop_nest.specs.Nest.{NaturalLoop, headers_of, header_at, members_at}
use Rattle.loop_nest.specs.Laws.{HeaderDominatesMembers, LoopsAreNested, DominanceIsAntisymmetric}
use Rattle.loop_nest.proofs.Elements.{from_map}
use Rattle.section_check.specs.Bounded.{BoundedLoop, IsKept, IsBoundedWalk, IsGreatest, cost_of}
use Rattle.path_solver.specs.Longest.{bounded_loops, WalkExceeds}
use Rattle.path_solver.specs.Laws.{ReachedWithinBounds}
use Rattle.path_solver.specs.Reaching.{IsFlagged}
use Rattle.bytecode_model.specs.Program.{Program}
use Rattle.method_flow.specs.Nodes.{Node, At, RaiseAt, number_of}
use Rattle.method_flow.specs.Graphs.{IsGraphOf}
use Rattle.method_flow.specs.Keeping.{BoundOf}
use Rattle.bound_rules.specs.Fitting.{header_bound}
use Rattle.bound_rules.specs.Laws.{GraphsAreOne, HeadersAreInstructions}
use Rattle.compact_walks.specs.Moving.{IsMoved}
use Rattle.compact_walks.specs.Laws.{GraphsAreMoved, MovedIsNest}
use Rattle.compact_walks.proofs.Renumbering.{AreBelow}
use Rattle.compact_walks.proofs.Kept.{IsBelow, kept_out, kept_in}
use Rattle.compact_walks.proofs.Loops.{headers_moved, header_below as loop_header, members_below as loop_members}
use Rattle.memory_rules.specs.Heap.{LoopMakesObjects, KeepsMaking, Part, OfMethod, OfWalk, OfNode, MayMake, IsMostMade}
use Rattle.memory_rules.specs.Heap.MayMake.{stops, nowhere, visits, nothing, makes, runs}
use Rattle.memory_bound.specs.declared.shapes.Shape.{Shape}
use Rattle.memory_bound.specs.Shapes.{node_of, headers_in, IsShapeOf}
use Rattle.memory_bound.specs.Found.{HasLoopBounds, Exceeds}
use Rattle.memory_bound.specs.Loops.{header_in, AreBoundsOf, bounds_of_loops}
use Rattle.memory_bound.specs.Words.{AreNodeWords, SomeExceeds}
use Rattle.memory_bound.proofs.Keeping.{all_from_contains}
use Rattle.memory_bound.proofs.Cutting.{walk_ends}
use Rattle.memory_bound.proofs.Shortening.{price_of, IsLoop, IsFree, shortened}
use Rattle.memory_bound.proofs.Reaching.{node_of_number}
use Rattle.memory_bound.proofs.MakingParts.{NodeMakes, none_or_makes}
use Rattle.memory_bound.proofs.Bounding.{IsBoundedAt, bounded_at, has_bounded, zeros_long, nodes_alone, header_bound_at}
use Rattle.memory_bound.proofs.Compacting.{exit_in, entry_below, from_entry, walk_below, end_below, reached_in, reached_out, from_entry_back, own_nest, nest_out, header_out, members_out, own_members, is_moved}

true_or_not : (b : Bool) → (b ≡ true) ⊎ (b ≡ true → ⊥)
true_or_not true = inl refl
true_or_not false = inr (λ e. (cc))

some_or_none : {A : Type 0} (o : Option A) → ((x : A) × (o ≡ Some x)) ⊎ (o ≡ None)
some_or_none None = inr refl
some_or_none (Some x) = inl (x, refl)

-- ---- what walks make

module _ (P : Program) (bounds lengths : BoundOf) where
  -- how an activation makes so many words
  pub record Stop (m w : ℕ) : Type 0 where
    pub graph : Digraph
    pub is_graph : IsGraphOf P m graph
    pub last : ℕ
    pub nodes : List ℕ
    pub walk : Walk graph 0 last nodes
    pub kept : KeepsMaking P bounds m graph nodes
    pub may : MayMake P bounds lengths (OfWalk m nodes) w

  abbrev StopOf : Part → ℕ → Type 0
  StopOf (OfMethod m) w = Stop m w
  StopOf (OfWalk m ns) w = Unit {0}
  StopOf (OfNode m u) w = Unit {0}

  pub stop_of : {part : Part} {w : ℕ} → MayMake P bounds lengths part w → StopOf part w
  stop_of (stops {last = last} {g = g} {ns = ns} is walk kept may) =
      record { graph = g; is_graph = is; last = last; nodes = ns; walk = walk; kept = kept; may = may }
  stop_of nowhere = tt
  stop_of (visits node rest) = tt
  stop_of nothing = tt
  stop_of (makes line most) = tt
  stop_of (runs target may) = tt

  module _ (m : ℕ) (node : ℕ → ℕ) (words : List ℕ) where
    -- each of these nodes makes at most so many
    abbrev AreMost : List ℕ → Type 0
    AreMost ms = (x : ℕ) → Contains ms x → (u : Node) → number_of u ≡ node x → (w : ℕ) → MayMake P bounds lengths (OfNode m u) w → w ≤ get_or words x 0

    abbrev MostOf : Part → ℕ → Type 0
    MostOf (OfMethod k) w = Unit {0}
    MostOf (OfWalk k ns) w = k ≡ m → (ms : List ℕ) → map node ms ≡ ns → AreMost ms → w ≤ price_of words ms
    MostOf (OfNode k u) w = Unit {0}

    pub walk_most : {part : Part} {w : ℕ} → MayMake P bounds lengths part w → MostOf part w
    walk_most (stops is walk kept may) = tt
    walk_most nowhere = λ same ms are most. omega arith
    walk_most (visits {m = k} {v} {w} {u} {ns} made rest) = by (walk_most rest)
      where
        by : (k ≡ m → (ms : List ℕ) → map node ms ≡ ns → AreMost ms → w ≤ price_of words ms) → k ≡ m → (ms : List ℕ) → map node ms ≡ number_of u ∷ ns → AreMost ms → v + w ≤ price_of words ms
        by later same [] are most = let bad : ⊥ = cc in absurd bad
        by on same (x ∷ ms) are most =
            let head : node x ≡ number_of u = cc in
            let tail : map node ms ≡ ns = cc in
            let first = most x (at_head x ms) u (sym head) v (subst (λ (j : ℕ). MayMake P bounds lengths (OfNode j u) v) same made) in
            let later = on same ms tail (λ y has. most y (in_tail x y ms has)) in
            let e = sum_by-cons (λ (y : ℕ). get_or words y 0) x ms in
            omega arith
    walk_most nothing = tt
    walk_most (makes line most) = tt
    walk_most (runs target may) = tt

    -- and makes just so many
    abbrev AreMade : List ℕ → Type 0
    AreMade ms = (x : ℕ) → Contains ms x → (u : Node) × (number_of u ≡ node x) × MayMake P bounds lengths (OfNode m u) (get_or words x 0)

    pub walk_made : (ms : List ℕ) → AreMade ms → MayMake P bounds lengths (OfWalk m (map node ms)) (price_of words ms)
    walk_made [] made = nowhere
    walk_made (x ∷ ms) made =
        let r = made x (at_head x ms) in
        let rest = walk_made ms (λ y has. made y (in_tail x y ms has)) in
        let e = sum_by-cons (λ (y : ℕ). get_or words y 0) x ms in
        let all : MayMake P bounds lengths (OfWalk m (number_of r.0 ∷ map node ms)) (get_or words x 0 + price_of words ms) = visits r.2 rest in
        subst (λ (w : ℕ). MayMake P bounds lengths (OfWalk m (node x ∷ map node ms)) w) (sym e)
        (subst (λ (z : ℕ). MayMake P bounds lengths (OfWalk m (z ∷ map node ms)) (get_or words x 0 + price_of words ms)) r.1 all)

  -- a walk makes what one of its nodes does
  pub node_alone : (m : ℕ) (ns : List ℕ) → ((x : ℕ) → Contains ns x → (u : Node) × (number_of u ≡ x)) → (u : Node) → Contains ns (number_of u) → (w : ℕ)
      → MayMake P bounds lengths (OfNode m u) w → MayMake P bounds lengths (OfWalk m ns) w
  node_alone m [] are u has w made = absurd (nil_contains (number_of u) has)
  node_alone m (x ∷ ns) are u has w made =
      elim (cons_cases x (number_of u) ns has) [
        | inl same ↦
            let all : MayMake P bounds lengths (OfWalk m (number_of u ∷ ns)) (w + 0) = visits made (none ns (λ y c. are y (in_tail x y ns c))) in
            let e : w + 0 ≡ w = omega arith in
            subst (λ (v : ℕ). MayMake P bounds lengths (OfWalk m (x ∷ ns)) v) e (subst (λ (z : ℕ). MayMake P bounds lengths (OfWalk m (z ∷ ns)) (w + 0)) (sym same) all)
        | inr later ↦
            let k = are x (at_head x ns) in
            let all : MayMake P bounds lengths (OfWalk m (number_of k.0 ∷ ns)) (0 + w) = visits nothing (node_alone m ns (λ y c. are y (in_tail x y ns c)) u later w made) in
            let e : 0 + w ≡ w = omega arith in
            subst (λ (v : ℕ). MayMake P bounds lengths (OfWalk m (x ∷ ns)) v) e (subst (λ (z : ℕ). MayMake P bounds lengths (OfWalk m (z ∷ ns)) (0 + w)) k.1 all)
      ]
    where
      none : (zs : List ℕ) → ((x : ℕ) → Contains zs x → (u : Node) × (number_of u ≡ x)) → MayMake P bounds lengths (OfWalk m zs) 0
      none [] are = nowhere
      none (z ∷ zs) are =
          let k = are z (at_head z zs) in
          let all : MayMake P bounds lengths (OfWalk m (number_of k.0 ∷ zs)) (0 + 0) = visits nothing (none zs (λ y c. are y (in_tail z y zs c))) in
          subst (λ (y : ℕ). MayMake P bounds lengths (OfWalk m (y ∷ zs)) 0) k.1 all

-- ---- the loops of a method

module _ (moves : GraphsAreMoved) (nests : MovedIsNest) (one : GraphsAreOne) (instructions : HeadersAreInstructions) (P : Program) (bounds lengths : BoundOf) (m : ℕ) (s : Shape) (of : IsShapeOf P m s)
    (has : HasLoopBounds P bounds m) (found : List ℕ) (are : AreBoundsOf P bounds m s found) where
  moved : IsMoved of.graph of.shape.compact (node_of s)
  moved = is_moved moves P m s of

  zeros : List ℕ
  zeros = replicate (length s.nest) 0

  abbrev loops : List BoundedLoop
  loops = bounded_loops s.nest found (replicate (length s.nest) 0)

  header_is : (i : ℕ) → i < length s.nest → header_in s i ≡ node_of s (header_at s.nest i)
  header_is i lt = get_or-map (node_of s) (headers_of s.nest) i 0 0 (omega (arith, length-map s.nest (λ (l : NaturalLoop). l.header)))

  -- the bound of a loop that makes objects
  making_bound : (i : ℕ) → i < length s.nest → IsFlagged are.making i → (p : ℕ) × (node_of s (header_at s.nest i) ≡ 2 * p) × (bounds m p ≡ Some (get_or found i 0))
  making_bound i lt flagged =
      let header : IsHeader of.graph (node_of s (header_at s.nest i)) = header_out of.graph s of.shape nests moved i lt in
      let place = instructions P m of.graph (node_of s (header_at s.nest i)) (inl of.is_graph) header in
      let made : LoopMakesObjects P m of.graph (header_in s i) = (are.loops of.graph of.is_graph i lt).0 flagged in
      let at : header_in s i ≡ 2 * place.0 = header_is i lt ∙ place.1 in
      let made' : LoopMakesObjects P m of.graph (2 * place.0) = subst (λ (h : ℕ). LoopMakesObjects P m of.graph h) at made in
      let header' : IsHeader of.graph (2 * place.0) = subst (λ (h : ℕ). IsHeader of.graph h) place.1 header in
      elim (some_or_none (bounds m place.0)) [
        | inr none ↦ absurd (has place.0 (record { graph = of.graph; is_graph = of.is_graph; header = header'; makes = made' }, none))
        | inl given ↦ (place.0, place.1, given.1 ∙ ap Some (sym (value place.0 at given.0 given.1)))
      ]
    where
      value : (p : ℕ) → header_in s i ≡ 2 * p → (n : ℕ) → bounds m p ≡ Some n → get_or found i 0 ≡ n
      value p at n given =
          let long : length (headers_in s) ≡ length s.nest = length-map (headers_of s.nest) (node_of s) ∙ length-map s.nest (λ (l : NaturalLoop). l.header) in
          let read : slice_index_or (bounds_of_loops bounds m s) i None ≡ header_bound bounds m (header_in s i) =
          get_or-map (header_bound bounds m) (headers_in s) i 0 None (omega (arith, long)) in
          let there : header_bound bounds m (header_in s i) ≡ Some n = ap (header_bound bounds m) at ∙ header_bound_at bounds m p ∙ given in
          are.are.flagged i (omega (arith, are.long)) flagged ∙ ap (λ (o : Option ℕ). unwrap_or o 0) (read ∙ there)

  -- the bounds of a walk of the graph as those of a walk of the shape
  module _ (ms : List ℕ) (below : AreBelow of.shape.compact.nodes ms) (l : BoundedLoop) (at : IsBoundedAt s.nest found l) where
    in_range : IsBelow of.shape.compact.nodes l
    in_range = record {
      header = subst (λ (h : ℕ). h < of.shape.compact.nodes) (sym at.header) (header_below at.index at.below);
      members = subst (λ (us : List ℕ). AreBelow of.shape.compact.nodes us) (sym at.members) (members_below at.index at.below);
    }
      where
        header_below : (i : ℕ) → i < length s.nest → header_at s.nest i < of.shape.compact.nodes
        header_below i lt = loop_header of.graph of.shape.compact (node_of s) moved s.nest (own_nest of.graph s of.shape nests moved) i lt

        members_below : (i : ℕ) → i < length s.nest → AreBelow of.shape.compact.nodes (members_at s.nest i)
        members_below i lt = loop_members of.graph of.shape.compact (node_of s) moved s.nest (own_nest of.graph s of.shape nests moved) i lt

    same_members : (x : ℕ) → Contains (map (node_of s) l.members) x ↔ IsMember of.graph (node_of s l.header) x
    same_members x =
        let both = members_out of.graph s of.shape nests moved at.index at.below x in (
          λ c. subst (λ (h : ℕ). IsMember of.graph (node_of s h) x) (sym at.header) (both.0 (subst (λ (us : List ℕ). Contains (map (node_of s) us) x) at.members c)),
          λ c. subst (λ (us : List ℕ). Contains (map (node_of s) us) x) (sym at.members) (both.1 (subst (λ (h : ℕ). IsMember of.graph (node_of s h) x) at.header c)),
        )

    kept_as_bound : IsKept ms l → KeepsBound of.graph (node_of s l.header) l.bound (map (node_of s) ms)
    kept_as_bound kept before in_loop after is all =
        kept_out of.shape.compact.nodes (node_of s) of.shape.is_compact.rising l in_range ms below kept before in_loop after is
        (all_from_contains (Contains (map (node_of s) l.members)) in_loop (λ x c. (same_members x).1 (All-contains (IsMember of.graph (node_of s l.header)) in_loop x all c)))

    bound_as_kept : KeepsBound of.graph (node_of s l.header) l.bound (map (node_of s) ms) → IsKept ms l
    bound_as_kept keeps =
        kept_in of.shape.compact.nodes (node_of s) of.shape.is_compact.rising l in_range ms below
        (λ before in_loop after is all. keeps before in_loop after is
        (all_from_contains (IsMember of.graph (node_of s l.header)) in_loop (λ x c. (same_members x).0 (All-contains (Contains (map (node_of s) l.members)) in_loop x all c))))

  -- a bounded walk keeps the bounds of the loops that make objects
  pub keeps_making : (ms : List ℕ) → AreBelow of.shape.compact.nodes ms → All (IsKept ms) (bounded_loops s.nest found (replicate (length s.nest) 0)) → KeepsMaking P bounds m of.graph (map (node_of s) ms)
  keeps_making ms below kept p n header made given =
      let listed = (nest_out of.graph s of.shape nests moved).complete (2 * p) header in
      let in_moved : Contains (map (node_of s) (headers_of s.nest)) (2 * p) = subst (λ (hs : List ℕ). Contains hs (2 * p)) (headers_moved (node_of s) s.nest) listed in
      let r = from_map (node_of s) (headers_of s.nest) (2 * p) in_moved in
      let i = r.1.0 in
      let lt : r.1.0 < length s.nest = (let below = r.1.1 in omega (arith, length-map s.nest (λ (l : NaturalLoop). l.header))) in
      let head : header_at s.nest r.1.0 ≡ r.0 = get_or_default (headers_of s.nest) r.1.0 0 r.0 r.1.1 ∙ r.1.2 in
      let at_p : node_of s (header_at s.nest r.1.0) ≡ 2 * p = ap (node_of s) head ∙ r.2 in
      let made' : LoopMakesObjects P m of.graph (header_in s r.1.0) = subst (λ (h : ℕ). LoopMakesObjects P m of.graph h) (sym (header_is r.1.0 lt ∙ at_p)) made in
      let flagged = (are.loops of.graph of.is_graph r.1.0 lt).1 made' in
      let b = making_bound r.1.0 lt flagged in
      let same_place : b.0 ≡ p = (let e : 2 * b.0 ≡ 2 * p = sym b.1 ∙ at_p in omega arith) in
      let value : get_or found r.1.0 0 ≡ n = some_same (get_or found r.1.0 0) n (sym b.2 ∙ ap (bounds m) same_place ∙ given) in
      let bounded = has_bounded s.nest found (replicate (length s.nest) 0) (are.are.long ∙ are.long) (zeros_long (length s.nest)) r.1.0 lt in
      let at : IsBoundedAt s.nest found bounded.loop = record { index = r.1.0; below = lt; header = bounded.header; members = bounded.members; bound = bounded.bound } in
      let keeps = kept_as_bound ms below bounded.loop at (All-contains (IsKept ms) loops bounded.loop kept bounded.among) in
      let at_header : node_of s bounded.loop.header ≡ 2 * p = ap (node_of s) bounded.header ∙ at_p in
      subst (λ (h : ℕ). KeepsBound of.graph h n (map (node_of s) ms)) at_header
      (subst (λ (k : ℕ). KeepsBound of.graph (node_of s bounded.loop.header) k (map (node_of s) ms)) (bounded.bound ∙ value) keeps)

  -- ---- the words of nodes

  module _ (words : List ℕ) (node_words : AreNodeWords P bounds lengths m s.nodes words) where
    below_nodes : (u : ℕ) → u < of.shape.compact.nodes → u < length s.nodes
    below_nodes u lt = let long = of.shape.long in omega arith

    node_at : (u : ℕ) → u < of.shape.compact.nodes → (k : Node) × (number_of k ≡ node_of s u)
    node_at u lt = let r = node_of_number P m of.graph of.is_graph (node_of s u) (reached_out of.graph s of.shape u lt) in (r.0, sym r.2)

    most_at : (u : ℕ) → u < of.shape.compact.nodes → (k : Node) → number_of k ≡ node_of s u → IsMostMade P bounds lengths (OfNode m k) (get_or words u 0)
    most_at u lt k is = node_words.each u (below_nodes u lt) k is

    -- the nodes of a loop that makes none
    free_loop : (l : BoundedLoop) → (at : IsBoundedAt s.nest found l) → (IsFlagged are.making at.index → ⊥) → IsFree words l
    free_loop l at out u c =
        let inside : Contains (members_at s.nest at.index) u = subst (λ (us : List ℕ). Contains us u) at.members c in
        let lt : u < of.shape.compact.nodes = loop_members of.graph of.shape.compact (node_of s) moved s.nest (own_nest of.graph s of.shape nests moved) at.index at.below u inside in
        let k = node_at u lt in
        let member : IsMember of.graph (node_of s (header_at s.nest at.index)) (number_of k.0) =
        subst (λ (x : ℕ). IsMember of.graph (node_of s (header_at s.nest at.index)) x) (sym k.1) ((members_out of.graph s of.shape nests moved at.index at.below (node_of s u)).0 (map_contains (node_of s) (members_at s.nest at.index) u inside)) in
        by k.0 member (none_or_makes P bounds lengths (most_at u lt k.0 k.1).attained)
      where
        by : (k : Node) → IsMember of.graph (node_of s (header_at s.nest at.index)) (number_of k) → (get_or words u 0 ≡ 0) ⊎ NodeMakes P m k → get_or words u 0 ≡ 0
        by k member (inl none) = none
        by (At p) member (inr made) =
            let makes_loop : LoopMakesObjects P m of.graph (header_in s at.index) = (p, subst (λ (h : ℕ). IsMember of.graph h (2 * p)) (sym (header_is at.index at.below)) member, made) in
            absurd (out ((are.loops of.graph of.is_graph at.index at.below).1 makes_loop))
        by (RaiseAt p) member (inr never) = absurd never

    -- a walk of the shape makes what its nodes cost
    made_by_walk : (ms : List ℕ) (last : ℕ) → Walk s.graph 0 last ms → All (IsKept ms) (bounded_loops s.nest found (replicate (length s.nest) 0)) → MayMake P bounds lengths (OfMethod m) (price_of words ms)
    made_by_walk ms last walk kept =
        let below = walk_below of.graph s of.shape walk (entry_below of.graph s of.shape) in
        let made = walk_made P bounds lengths m (node_of s) words ms (λ x c. let k = node_at x (below x c) in (k.0, k.1, (most_at x (below x c) k.0 k.1).attained)) in
        stops of.is_graph (from_entry of.graph s of.shape walk) (keeps_making ms below kept) made

    cost_is : (ms : List ℕ) → cost_of words (bounded_loops s.nest found (replicate (length s.nest) 0)) ms ≡ price_of words ms
    cost_is ms = nodes_alone words s.nest found ms

    module _ (dominates : HeaderDominatesMembers) (nested : LoopsAreNested) (antisymmetric : DominanceIsAntisymmetric) where
      most_by_walk : (value : ℕ) → IsGreatest s.graph words (bounded_loops s.nest found (replicate (length s.nest) 0)) value → (w : ℕ) → MayMake P bounds lengths (OfMethod m) w → w ≤ value
      most_by_walk value greatest w may = by (stop_of P bounds lengths may)
        where
          by : Stop P bounds lengths m w → w ≤ value
          by st =
              let same : st.graph ≡ of.graph = one P m st.graph of.graph st.is_graph of.is_graph in
              let walk : Walk of.graph 0 st.last st.nodes = subst (λ (g : Digraph). Walk g 0 st.last st.nodes) same st.walk in
              let kept : KeepsMaking P bounds m of.graph st.nodes = subst (λ (g : Digraph). KeepsMaking P bounds m g st.nodes) same st.kept in
              let b = from_entry_back of.graph s of.shape walk in
              let below = walk_below of.graph s of.shape b.walk (entry_below of.graph s of.shape) in
              let kept' : KeepsMaking P bounds m of.graph (map (node_of s) b.nodes) = subst (λ (ns : List ℕ). KeepsMaking P bounds m of.graph ns) (sym b.are) kept in
              let short = shortened s.graph dominates nested antisymmetric words loops loop_is b.nodes (kinds b.nodes below kept') b.target b.walk in
              let exit : Contains s.graph.exits b.target = exit_in of.graph s of.shape b.target (end_below of.graph s of.shape b.walk (entry_below of.graph s of.shape)) in
              let bounded : IsBoundedWalk s.graph loops short.0 = record { last = b.target; walk = short.1; exit = exit; kept = short.2 } in
              let le = greatest.greatest short.0 bounded in
              let cost = cost_is short.0 in
              let cheaper = short.3 in
              let most = walk_most P bounds lengths m (node_of s) words st.may refl b.nodes b.are (λ x c k is v made. (most_at x (below x c) k is).greatest v made) in
              omega arith
            where
              loop_is : (l : BoundedLoop) → Contains loops l → IsLoop s.graph l
              loop_is l among x =
                  let at = bounded_at s.nest found (replicate (length s.nest) 0) l among in
                  let both = own_members of.graph s of.shape nests moved at.index at.below x in (
                    λ c. subst (λ (h : ℕ). IsMember s.graph h x) (sym at.header) (both.0 (subst (λ (us : List ℕ). Contains us x) at.members c)),
                    λ c. subst (λ (us : List ℕ). Contains us x) (sym at.members) (both.1 (subst (λ (h : ℕ). IsMember s.graph h x) at.header c)),
                  )

              kinds : (ms : List ℕ) → AreBelow of.shape.compact.nodes ms → KeepsMaking P bounds m of.graph (map (node_of s) ms) → (l : BoundedLoop) → Contains loops l → IsKept ms l ⊎ IsFree words l
              kinds ms below kept l among =
                  let at = bounded_at s.nest found (replicate (length s.nest) 0) l among in
                  elim (true_or_not (slice_index_or are.making at.index false)) [
                    | inr out ↦ inr (free_loop l at out)
                    | inl flagged ↦ inl (kept_flagged at flagged)
                  ]
                where
                  kept_flagged : (at : IsBoundedAt s.nest found l) → IsFlagged are.making at.index → IsKept ms l
                  kept_flagged at flagged =
                      let c = making_bound at.index at.below flagged in
                      let at_header : node_of s l.header ≡ 2 * c.0 = ap (node_of s) at.header ∙ c.1 in
                      let header : IsHeader of.graph (2 * c.0) = subst (λ (h : ℕ). IsHeader of.graph h) c.1 (header_out of.graph s of.shape nests moved at.index at.below) in
                      let made : LoopMakesObjects P m of.graph (2 * c.0) = subst (λ (h : ℕ). LoopMakesObjects P m of.graph h) (header_is at.index at.below ∙ c.1) ((are.loops of.graph of.is_graph at.index at.below).0 flagged) in
                      let keeps = kept c.0 (get_or found at.index 0) header made c.2 in
                      bound_as_kept ms below l at
                      (subst (λ (h : ℕ). KeepsBound of.graph h l.bound (map (node_of s) ms)) (sym at_header)
                      (subst (λ (k : ℕ). KeepsBound of.graph (2 * c.0) k (map (node_of s) ms)) (sym at.bound) keeps))

      -- so the greatest walk tells the need
      pub greatest_is_need : (value : ℕ) → IsGreatest s.graph words (bounded_loops s.nest found (replicate (length s.nest) 0)) value → IsMostMade P bounds lengths (OfMethod m) value
      greatest_is_need value greatest =
          let b = greatest.bounded in
          let same : price_of words greatest.walk ≡ value = sym (cost_is greatest.walk) ∙ greatest.attained in
          record {
            attained = subst (λ (w : ℕ). MayMake P bounds lengths (OfMethod m) w) same (made_by_walk greatest.walk b.last b.walk b.kept);
            greatest = most_by_walk value greatest;
          }

    pub exceeding_walk : WalkExceeds s.graph words (bounded_loops s.nest found (replicate (length s.nest) 0)) → Exceeds P bounds lengths (OfMethod m)
    exceeding_walk e =
        let b = e.bounded in
        let same = cost_is e.walk in
        let more = e.exceeds in
        record { words = price_of words e.walk; may = made_by_walk e.walk b.last b.walk b.kept; exceeds = omega arith }

  -- a node that makes too many
  pub exceeding_node : ReachedWithinBounds → SomeExceeds P bounds lengths m s.nodes → Exceeds P bounds lengths (OfMethod m)
  exceeding_node within e =
      let c = e.among in
      let u = c.0 in
      let lt : c.0 < of.shape.compact.nodes = (let long = of.shape.long in let below = c.1 in omega arith) in
      let at : node_of s c.0 ≡ e.number = get_or_default s.nodes c.0 0 e.number c.1 ∙ c.2 in
      let walk = within s.graph s.nest found (replicate (length s.nest) 0) of.shape.nest c.0 (reached_in of.graph s of.shape c.0 lt) in
      let below = walk_below of.graph s of.shape walk.1 (entry_below of.graph s of.shape) in
      let out = from_entry of.graph s of.shape walk.1 in
      let k = node_of_number P m of.graph of.is_graph (node_of s c.0) (reached_out of.graph s of.shape c.0 lt) in
      let x = e.exceeds k.0 (sym k.2 ∙ at) in
      let ends = walk_ends walk.1 in
      let visited : Contains (map (node_of s) walk.0) (number_of k.0) =
      subst (λ (z : ℕ). Contains (map (node_of s) walk.0) z) k.2 (map_contains (node_of s) walk.0 c.0 (subst (λ (zs : List ℕ). Contains zs c.0) (sym ends.1) (Contains-push ends.0 c.0))) in
      record {
        words = x.words;
        may = stops of.is_graph out (keeps_making walk.0 below walk.2) (node_alone P bounds lengths m (map (node_of s) walk.0) (nodes_of walk.0 below) k.0 visited x.words x.may);
        exceeds = x.exceeds;
      }
    where
      nodes_of : (ms : List ℕ) → AreBelow of.shape.compact.nodes ms → (x : ℕ) → Contains (map (node_of s) ms) x → (k : Node) × (number_of k ≡ x)
      nodes_of ms below x has =
          let r = from_map (node_of s) ms x has in
          let k = node_of_number P m of.graph of.is_graph (node_of s r.0) (reached_out of.graph s of.shape r.0 (below r.0 r.1)) in
          (k.0, sym k.2 ∙ r.2)

-- A method whose graph is reducible and whose loops have bounds has a live graph with a nest and bounds.
use Rattle.std.proofs.Common.{◌≡◌, ℕ, ◌*◌, ◌/◌, List, [], ◌∷◌, map, Contains, Option, Some, None, IsSome, refl, sym, ap, ◌∙◌, subst, inl, arith}
use Rattle.std.specs.Prelude.{◌%◌, ◌==◌}
use Rattle.std.proofs.lemmas.Bool.{cond-true, eq-eqb}
use Rattle.std.proofs.lemmas.List.Elements.{All-contains, All-weaker, All-contains_itself}
use Rattle.loop_nest.specs.Digraph.{Digraph}
use Rattle.loop_nest.specs.Walks.{IsHeader}
use Rattle.loop_nest.specs.Nest.{NaturalLoop, IsLoopOf}
use Rattle.loop_nest.specs.Reduction.{Leaves, IsReducible}
use Rattle.loop_nest.specs.Laws.{CyclesTakeBackEdges, LoopsAreNested, HeaderDominatesMembers, DominanceIsAntisymmetric}
use Rattle.bytecode_model.specs.Program.{Program}
use Rattle.method_flow.specs.Nodes.{IsEdge}
use Rattle.method_flow.specs.Live.{IsLiveEdge}
use Rattle.method_flow.specs.Graphs.{IsLiveGraph}
use Rattle.method_flow.specs.Keeping.{BoundOf}
use Rattle.compact_walks.specs.Laws.{GraphsAreMoved}
use Rattle.bound_rules.specs.Bounding.{IsLeftWith}
use Rattle.bound_rules.specs.Fitting.{header_bound}
use Rattle.bound_rules.specs.Laws.{HeadersAreInstructions}
use Rattle.bound_rules.specs.Numbers.{LiveNest}
use Rattle.bound_laws.specs.Walking.{LeadsFromReached, TakesBackEdges, NestsExist}
use Rattle.bound_laws.proofs.Living.{edges_from_reached, edges_whole, part_takes, header_whole}

pub none_mapped : (f : ℕ → ℕ) (xs : List ℕ) → [] ≡ map f xs → xs ≡ []
none_mapped f [] e = refl
none_mapped f (x ∷ xs) e = absurd (let bad : ⊥ = cc in bad)

-- the bound of a header that is an instruction
place_bound : (bound_of : BoundOf) (m h q : ℕ) → h ≡ 2 * q → header_bound bound_of m h ≡ bound_of m q
place_bound bound_of m h q is =
    let even : h % 2 ≡ 0 = omega arith in
    let place : h / 2 ≡ q = omega arith in
    cond-true (h % 2 == 0) (bound_of m (h / 2)) None (eq-eqb (h % 2) 0 even) ∙ ap (bound_of m) place

-- what is proved of graphs and their numbers
pub record GraphLaws : Type 0 where
  pub cycles : CyclesTakeBackEdges
  pub nested : LoopsAreNested
  pub dominate : HeaderDominatesMembers
  pub antisymmetric : DominanceIsAntisymmetric
  pub moves : GraphsAreMoved
  pub even : HeadersAreInstructions
  pub nests : NestsExist

module _ (laws : GraphLaws) (P : Program) (bound_of : BoundOf) (m : ℕ) (left : IsLeftWith P m []) where
  reducible : IsReducible left.compact
  reducible = subst (λ (us : List ℕ). Leaves left.compact us) (none_mapped left.node left.left left.nodes_are) left.leaves

  pub live_takes : (g : Digraph) → IsLiveGraph P m g → TakesBackEdges g
  live_takes g live = part_takes laws.cycles left.graph left.compact left.node (laws.moves P m left.graph left.compact left.node (inl left.is_graph) left.is_compact) reducible g (edges_whole P m left.graph g left.is_graph live)

  pub live_from_reached : (g : Digraph) → IsLiveGraph P m g → LeadsFromReached g
  live_from_reached g live = edges_from_reached (IsLiveEdge P m) P m g live

  has_bound : ((p : ℕ) → IsHeader left.graph (2 * p) → bound_of m p ≡ None → ⊥) → (g : Digraph) → IsLiveGraph P m g → (h : ℕ) → IsHeader g h → IsSome (header_bound bound_of m h)
  has_bound lines g live h header =
      let whole = header_whole laws.cycles left.graph left.compact left.node (laws.moves P m left.graph left.compact left.node (inl left.is_graph) left.is_compact) reducible g (edges_whole P m left.graph g left.is_graph live)
      laws.nested laws.dominate laws.antisymmetric (edges_from_reached (IsEdge P m) P m left.graph left.is_graph) (live_from_reached g live) h header
      in
      let p = laws.even P m left.graph h (inl left.is_graph) whole in
      subst (λ (o : Option ℕ). IsSome o) (sym (place_bound bound_of m h p.0 p.1)) (by p.0 (bound_of m p.0) refl (subst (λ (x : ℕ). IsHeader left.graph x) p.1 whole))
    where
      by : (p : ℕ) (o : Option ℕ) → bound_of m p ≡ o → IsHeader left.graph (2 * p) → IsSome o
      by p None is head = absurd (lines p head is)
      by p (Some n) is head = refl

  pub flow_exists : ((p : ℕ) → IsHeader left.graph (2 * p) → bound_of m p ≡ None → ⊥) → (((g : Digraph) × IsLiveGraph P m g → ⊥) → ⊥) → (LiveNest P bound_of m → ⊥) → ⊥
  flow_exists lines graphs none =
      graphs (λ g. laws.nests g.0 g.1.digraph (live_from_reached g.0 g.1) (λ nest. none (record {
        graph = g.0;
        is_live = g.1;
        nest = nest.0;
        is_nest = nest.1;
        bounded = All-weaker (Contains nest.0) (λ (l : NaturalLoop). IsSome (header_bound bound_of m l.header))
            (λ l c. has_bound lines g.0 g.1 l.header (All-contains (IsLoopOf g.0) nest.0 l nest.1.loops c).header) nest.0 (All-contains_itself nest.0);
      })))

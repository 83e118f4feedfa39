-- Graphs of methods exist, where control stays within the code.
use Rattle.std.proofs.Common.{◌≡◌, ℕ, ◌*◌, ◌<◌, List, length, Contains, Some, refl, inl, inr, arith}
use Rattle.std.proofs.lemmas.List.Elements.{All-weaker, All-contains_itself}
use Rattle.lists.proofs.Lemmas.{some_in}
use Rattle.opcodes.specs.Start.{AreStarts}
use Rattle.bytecode_model.specs.Program.{Program, Body, body_of}
use Rattle.bytecode_typing.specs.Typed.{Typing, Typed}
use Rattle.loop_nest.specs.Digraph.{Digraph, IsBefore}
use Rattle.method_flow.specs.Nodes.{Node, At, RaiseAt, number_of, IsEdge, IsReached}
use Rattle.method_flow.specs.Nodes.IsReached.{first, later}
use Rattle.method_flow.specs.Live.{IsLiveEdge}
use Rattle.method_flow.specs.Graphs.{IsGraphBy, IsReachedEdge, IsReachedExit}
use Rattle.method_runs.specs.TypedGraphs.Laws.{MethodGraphsExist, LiveGraphsExist}
use Rattle.method_runs.proofs.TypedGraphsLemmas.Choosing.{IsKept, kept, to_adjacent, to_increasing, numbers_below, numbers_are, numbers_are_below, numbers_rise, pairs_of, pairs_are, pairs_are_of, pairs_rise}
use Rattle.method_runs.proofs.TypedGraphsLemmas.Staying.{places_are_starts}

-- ---- by any edges

module _ (IsEdgeIn : Node → Node → Type 0) (P : Program) (m : ℕ) (b : Body) (body : body_of P m ≡ Some b) (within : (u : Node) → IsReached IsEdgeIn u → number_of u < 2 * length b.code) where
  abbrev count : ℕ
  count = 2 * length b.code

  abbrev IsEdgeOf : ℕ × ℕ → Type 0
  IsEdgeOf e = IsReachedEdge IsEdgeIn e.0 e.1

  abbrev pairs : List (ℕ × ℕ)
  pairs = pairs_of (numbers_below count) (numbers_below count)

  made : (es : List (ℕ × ℕ)) (xs : List ℕ) → IsKept IsBefore IsEdgeOf pairs es → IsKept ◌<◌ (IsReachedExit IsEdgeIn P m) (numbers_below count) xs → IsGraphBy IsEdgeIn P m (record { nodes = count; edges = es; exits = xs })
  made es xs edges exits = record {
    digraph = record {
      entry = let lt : 0 < count = within (At 0) first in lt;
      edges = record {
        ends = All-weaker (Contains es) (λ e. (e.0 < count) × (e.1 < count)) ends es (All-contains_itself es);
        rising = to_adjacent IsBefore es (edges.rises (pairs_rise (numbers_below count) (numbers_below count) (numbers_rise count) (numbers_rise count)));
      };
      exits = record {
        within = All-weaker (Contains xs) (λ u. u < count) (λ u has. numbers_are_below count u (exits.each u has).0) xs (All-contains_itself xs);
        rising = to_increasing xs (exits.rises (numbers_rise count));
      };
    };
    size = some_in (body_of P m) b (λ c. count ≡ 2 * length c.code) body refl;
    edges = λ u v. (λ has. (edges.each (u, v) has).1, λ e. edges.all (u, v) (pairs_are (numbers_below count) (numbers_below count) u v (source e) (target e)) e);
    exits = λ u. (λ has. (exits.each u has).1, λ e. exits.all u (leaving e) e);
  }
    where
      ends : (e : ℕ × ℕ) → Contains es e → (e.0 < count) × (e.1 < count)
      ends e has =
          let of = pairs_are_of (numbers_below count) (numbers_below count) e (edges.each e has).0 in
          (numbers_are_below count e.0 of.0, numbers_are_below count e.1 of.1)

      source : {u v : ℕ} → IsReachedEdge IsEdgeIn u v → Contains (numbers_below count) u
      source {u} {v} e = numbers_are count u (let lt = within e.source e.reached in let is = e.numbered.0 in omega arith)

      target : {u v : ℕ} → IsReachedEdge IsEdgeIn u v → Contains (numbers_below count) v
      target {u} {v} e = numbers_are count v (let lt = within e.target (later e.reached e.edge) in let is = e.numbered.1 in omega arith)

      leaving : {u : ℕ} → IsReachedExit IsEdgeIn P m u → Contains (numbers_below count) u
      leaving {u} e = numbers_are count u (let lt = within e.node e.reached in let is = e.numbered in omega arith)

  pub graph_exists : ¬ ¬ ((g : Digraph) × IsGraphBy IsEdgeIn P m g)
  graph_exists none =
      kept IsBefore IsEdgeOf pairs (λ es. kept ◌<◌ (IsReachedExit IsEdgeIn P m) (numbers_below count) (λ xs. none (record { nodes = count; edges = es.0; exits = xs.0 }, made es.0 xs.0 es.1 xs.1)))

-- ---- of typed programs

module _ (are_starts : (code : List ℕ) → AreStarts code) (P : Program) (types : Typing) (typed : Typed P types) (m : ℕ) (b : Body) (body : body_of P m ≡ Some b) where
  stays : (u : Node) → IsReached (IsEdge P m) u → number_of u < 2 * length b.code
  stays (At p) r = let lt = (are_starts b.code).within_code p (places_are_starts P types typed m b body r p (inl refl)) in omega arith
  stays (RaiseAt p) r = let lt = (are_starts b.code).within_code p (places_are_starts P types typed m b body r p (inr refl)) in omega arith

  reached_live : {u : Node} → IsReached (IsLiveEdge P m) u → IsReached (IsEdge P m) u
  reached_live first = first
  reached_live (later r e) = later (reached_live r) e.edge

pub method_graphs_exist : ((code : List ℕ) → AreStarts code) → MethodGraphsExist
method_graphs_exist are_starts P types typed m b body = graph_exists (IsEdge P m) P m b body (stays are_starts P types typed m b body)

pub live_graphs_exist : ((code : List ℕ) → AreStarts code) → LiveGraphsExist
live_graphs_exist are_starts P types typed m b body =
    graph_exists (IsLiveEdge P m) P m b body (λ u r. stays are_starts P types typed m b body u (reached_live are_starts P types typed m b body r))

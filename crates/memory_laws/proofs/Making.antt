-- Walks with the words that their nodes make, and frames with such walks.
use Rattle.std.proofs.Common.{◌≡◌, ℕ, ◌+◌, List, [], ◌∷◌, ◌++◌, Some, None, sym, subst, arith}
use Rattle.lists.proofs.Lemmas.{some_is}
use Rattle.opcodes.specs.Start.{IsStart}
use Rattle.bytecode_model.specs.declared.Ending.{Ending}
use Rattle.bytecode_model.specs.State.{Frame}
use Rattle.bytecode_model.specs.Program.{Program, Body, body_of}
use Rattle.bytecode_typing.specs.Typed.{Typing, Typed}
use Rattle.loop_nest.specs.Digraph.{Digraph}
use Rattle.method_flow.specs.Nodes.{Node, At, number_of, IsEdge}
use Rattle.method_flow.specs.Calls.{IsStartOf}
use Rattle.method_flow.specs.Graphs.{IsGraphOf}
use Rattle.method_flow.specs.Keeping.{BoundOf}
use Rattle.method_flow.specs.Regions.{IsWithin}
use Rattle.method_flow.specs.Regions.IsWithin.{itself, calls}
use Rattle.method_flow.specs.Shapes.{node_of}
use Rattle.method_runs.specs.TypedGraphs.Laws.{MethodGraphsExist}
use Rattle.method_runs.specs.Runs.{Walks}
use Rattle.method_runs.specs.Standing.{MethodWalk}
use Rattle.method_runs.specs.Standing.MethodWalk.{starts as walk_starts, goes as walk_goes}
use Rattle.method_runs.specs.Laws.{WalksAreOfGraphs}
use Rattle.memory_rules.specs.Heap.{OfMethod, OfWalk, OfNode, MayMake, KeepsMaking}
use Rattle.memory_rules.specs.Heap.MayMake.{stops, nowhere, visits, runs}
use Rattle.memory_laws.specs.Promises.{FramesKeep}
use Rattle.memory_laws.proofs.Calling.{MayRun, CalledFrom}

-- a walk of the method from its first instruction to a node, the numbers of its nodes, and the words that those before the last make
pub data MakingWalk (P : Program) (bounds lengths : BoundOf) (m : ℕ) : Node → List ℕ → ℕ → Type 0 where
  starts : MakingWalk P bounds lengths m (At 0) (0 ∷ []) 0
  goes : {u v : Node} {ns : List ℕ} {w x : ℕ} → MakingWalk P bounds lengths m u ns w → IsEdge P m u v → MayMake P bounds lengths (OfNode m u) x
      → MakingWalk P bounds lengths m v (ns ++ number_of v ∷ []) (w + x)

-- the frames that wait, and the words that their walks made before their invokes
abbrev pub MadeBelow : Program → (bounds lengths : BoundOf) → List Frame → Walks → ℕ → Type 0
MadeBelow P bounds lengths [] [] w = w ≡ 0
MadeBelow P bounds lengths (f ∷ fs) (Some us ∷ ws) w =
    (v : ℕ) × (rest : ℕ) × (w ≡ v + rest) × MakingWalk P bounds lengths f.method (At f.pc) us v × MadeBelow P bounds lengths fs ws rest
MadeBelow P bounds lengths fs ws w = ⊥

-- all frames, the top one at the node where it stands
abbrev pub HaveMade : Program → (bounds lengths : BoundOf) → Ending → List Frame → Walks → ℕ → Type 0
HaveMade P bounds lengths mode (f ∷ fs) (Some us ∷ ws) w =
    (v : ℕ) × (rest : ℕ) × (w ≡ v + rest) × MakingWalk P bounds lengths f.method (node_of mode f) us v × MadeBelow P bounds lengths fs ws rest
HaveMade P bounds lengths mode fs ws w = ⊥

module _ (P : Program) (bounds lengths : BoundOf) (m : ℕ) where
  pub method_walk : {u : Node} {ns : List ℕ} {w : ℕ} → MakingWalk P bounds lengths m u ns w → MethodWalk P m u ns
  method_walk (starts) = walk_starts
  method_walk (goes walk edge made) = walk_goes (method_walk walk) edge

  -- a walk with one node more
  walk_more : {ns : List ℕ} {w x : ℕ} (v : Node) → MayMake P bounds lengths (OfWalk m ns) w → MayMake P bounds lengths (OfNode m v) x → MayMake P bounds lengths (OfWalk m (ns ++ number_of v ∷ [])) (w + x)
  walk_more {x = x} v (nowhere) made = let e : x + 0 ≡ 0 + x = omega arith in subst (MayMake P bounds lengths (OfWalk m (number_of v ∷ []))) e (visits made nowhere)
  walk_more {x = x} v (visits {v = a} {w = b} {u = u} {ns = ns} here rest) made =
      let e : a + (b + x) ≡ a + b + x = omega arith in
      subst (MayMake P bounds lengths (OfWalk m (number_of u ∷ (ns ++ number_of v ∷ [])))) e (visits here (walk_more v rest made))

  -- the whole walk, where its last node makes so many words
  pub walk_makes : {u : Node} {ns : List ℕ} {w x : ℕ} → MakingWalk P bounds lengths m u ns w → MayMake P bounds lengths (OfNode m u) x → MayMake P bounds lengths (OfWalk m ns) (w + x)
  walk_makes (starts) made = walk_more (At 0) nowhere made
  walk_makes {u = u} (goes walk edge before) made = walk_more u (walk_makes walk before) made

  pub method_makes : WalksAreOfGraphs → (g : Digraph) → IsGraphOf P m g → {u : Node} {ns : List ℕ} {w x : ℕ} → ((h : Digraph) → IsGraphOf P m h → KeepsMaking P bounds m h ns) → MakingWalk P bounds lengths m u ns w
      → MayMake P bounds lengths (OfNode m u) x → MayMake P bounds lengths (OfMethod m) (w + x)
  method_makes graphs g of {u} {ns} keeps walk made = stops of ((graphs P m u ns (method_walk walk)).1 g of) (keeps g of) (walk_makes walk made)

-- ---- what may run

within_more : (P : Program) (m x p t : ℕ) → IsWithin P m x → MayRun P x p t → IsWithin P m t
within_more P m x p t (itself) may = calls p may.start may.call may.target itself
within_more P m x p t (calls {t = y} q start call target rest) may = calls q start call target (within_more P y x p t rest may)

-- the methods of the frames may run while boot does
pub within_boot : (P : Program) (m : ℕ) (fs : List Frame) → CalledFrom P m fs → IsWithin P P.boot m
within_boot P m [] is = subst (λ (x : ℕ). IsWithin P P.boot x) (sym is) itself
within_boot P m (f ∷ fs) is = within_more P P.boot f.method f.pc m (within_boot P f.method fs is.1) is.0

-- ---- a graph

pub graph_there : MethodGraphsExist → (P : Program) (types : Typing) → Typed P types → (m p : ℕ) → IsStartOf P m p → ¬ ¬ ((g : Digraph) × IsGraphOf P m g)
graph_there exist P types typed m p start = let b = some_is (body_of P m) (λ (b : Body). IsStart b.code p) start in exist P types typed m b.0 b.1

-- ---- all that boot makes

module _ (exist : MethodGraphsExist) (graphs : WalksAreOfGraphs) (P : Program) (types : Typing) (typed : Typed P types) (bounds lengths : BoundOf) where
  -- the frames below a method of which an activation makes so many words
  pub boot_makes : (m a : ℕ) (fs : List Frame) (ws : Walks) (w : ℕ) → CalledFrom P m fs → MadeBelow P bounds lengths fs ws w → FramesKeep P bounds fs ws → MayMake P bounds lengths (OfMethod m) a
      → ¬ ¬ MayMake P bounds lengths (OfMethod P.boot) (w + a)
  boot_makes m a [] [] w called below keep made = λ none. none (subst (λ (x : ℕ). MayMake P bounds lengths (OfMethod x) (w + a)) called (let e : a ≡ w + a = omega (arith, below) in subst (MayMake P bounds lengths (OfMethod m)) e made))
  boot_makes m a [] (v ∷ ws) w called below keep made = absurd below
  boot_makes m a (f ∷ fs) [] w called below keep made = absurd below
  boot_makes m a (f ∷ fs) (None ∷ ws) w called below keep made = absurd below
  boot_makes m a (f ∷ fs) (Some us ∷ ws) w called (v, rest, sum, walk, others) keep made = λ none.
      graph_there exist P types typed f.method f.pc called.0.start (λ g.
      let total : MayMake P bounds lengths (OfMethod f.method) (v + a) = method_makes P bounds lengths f.method graphs g.0 g.1 keep.0 walk (runs called.0.target made) in
      boot_makes f.method (v + a) fs ws rest called.1 others keep.1 total (λ all.
      let e : rest + (v + a) ≡ w + a = omega (arith, sum) in
      none (subst (MayMake P bounds lengths (OfMethod P.boot)) e all)))

-- What happens on each iteration of a loop, and what was stored before it is entered.
use Rattle.std.specs.Prelude.{◌≡◌, ◌≢◌, ℕ, ℤ, ◌+ℤ◌, List, Contains, All}
use Rattle.bytecode_model.specs.Types.{IntType, Numbers}
use Rattle.bytecode_model.specs.Program.{Program}
use Rattle.bytecode_model.specs.Rows as rows
use Rattle.loop_nest.specs.Digraph.{Digraph, Edge}
use Rattle.loop_nest.specs.Walks.{Walk, IsHeader, IsMember, IsBackEdge, IsEntering}
use Rattle.method_flow.specs.Nodes.{Node, At, number_of}
use Rattle.code_lines.specs.Lines.{IsLine, IsPushedBefore, Writes}

-- ---- on each iteration

-- a walk among the members of the loop leads from its header to the node u and doesn't visit x
abbrev pub ReachesWithout : Digraph → (header x u : ℕ) → Type 0
ReachesWithout g h x u = (ns : List ℕ) × Walk g h u ns × All (IsMember g h) ns × (¬ Contains ns x)

-- Each iteration visits the member x just once: no walk comes to a back edge without it, and it lies in no inner loop.
pub record IsOnEachIteration (g : Digraph) (h x : ℕ) : Type 0 where
  pub member : IsMember g h x
  pub passed : (u : ℕ) → IsBackEdge g u h → ¬ ReachesWithout g h x u
  pub once : (other : ℕ) → IsHeader g other → IsMember g other x → IsMember g h other → other ≡ h

-- Which value is tested first, where the local variable begins with c and s is added at each step: c where the test comes before the step, and c + s where
-- it comes behind it.
pub data FirstTested (g : Digraph) (h step test : ℕ) (c s : ℤ) : ℤ → Type 0 where
  test_first : ¬ ReachesWithout g h test step → FirstTested g h step test c s c
  step_first : ¬ ReachesWithout g h step test → FirstTested g h step test c s (c +ℤ s)

-- ---- before the loop

-- Backwards from the node, through nodes that are entered from one node alone, aren't node 0 and don't write the local variable, to the first place that
-- writes it.
pub data LastWrite (P : Program) (m : ℕ) (g : Digraph) (local : ℕ) : Node → ℕ → Type 0 where
  here : {p : ℕ} → Writes P m p local → LastWrite P m g local (At p) p
  before : {u w : Node} {p : ℕ} → ((q : ℕ) → u ≡ At q → ¬ Writes P m q local) → number_of u ≢ 0 → Edge g (number_of w) (number_of u)
      → ((z : ℕ) → Edge g z (number_of u) → z ≡ number_of w) → LastWrite P m g local w p → LastWrite P m g local u p

-- The loop is entered by one edge from outside, and on the way to it the last instruction that wrote the local variable stored the constant c.
pub record IsSetBefore (P : Program) (m : ℕ) (g : Digraph) (h local : ℕ) (c : ℤ) : Type 0 where
  pub source : Node
  pub enters : IsEntering g h (number_of source) h
  pub alone : (other : ℕ) → IsEntering g h other h → other ≡ number_of source
  pub place : ℕ
  pub last : LastWrite P m g local source place
  pub next : ℕ
  pub store : IsLine P m place next (rows.Store (Numbers IntType) local)
  pub pushed : IsPushedBefore P m place c

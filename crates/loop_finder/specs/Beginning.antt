-- With what local variables begin in the loops of a method, by whichever edge they are entered.
use Rattle.std.specs.Prelude.{◌≡◌, ◌≢◌, ◌⊎◌, ℕ, ◌*◌, ℤ, List, All, Contains, Some}
use Rattle.std.specs.declared.option.Option.{Option}
use Rattle.bytecode_model.specs.Program.{Program}
use Rattle.loop_nest.specs.Digraph.{Digraph}
use Rattle.loop_nest.specs.Walks.{IsEntering, IsHeader, IsMember}
use Rattle.method_flow.specs.Nodes.{Node, IsEdge, IsReached, number_of}
use Rattle.method_flow.specs.Graphs.{IsGraphOf}
use Rattle.loop_rules.specs.Iterations.{IsOnEachIteration}
use Rattle.loop_rules.specs.Further.Known.{Known, Stores}
use Rattle.loop_rules.specs.Further.Writing.{MayBeLast}
use Rattle.loop_rules.specs.Further.Beginning.{BeginsAt}
use Rattle.loop_rules.specs.Further.Laws.{StaysAtStarts}
use Rattle.loop_acts.specs.Acts.{AreActs}
use Rattle.loop_acts.specs.Rules.{further}
use Rattle.loop_finder.specs.declared.body.Beginning.{Beginning}
use Rattle.loop_finder.specs.declared.beginning.SoFar.{SoFar}
use Rattle.loop_finder.specs.declared.beginning.SoFar.TheVariants.{NotEntered, One, Unknown}
use Rattle.loop_finder.specs.Counting.{Body, IsOnlyStep}

-- what a method's instructions do by the further rules, and its graph; control stays at instructions
pub record IsBodyOf (P : Program) (known : Known) (m : ℕ) (b : Body) : Type 0 where
  pub graph : IsGraphOf P m b.graph
  pub acts : AreActs P (further P known) m b.acts
  pub stays : StaysAtStarts P m

-- ---- at one node

-- each instruction that may have written the local variable last, once control has passed the node, stores the int
abbrev pub AllStore : Program → Known → (method local : ℕ) → Node → ℤ → Type 0
AllStore P known m k u c = (w : Option ℕ) → MayBeLast P m k u w → Stores P known m k w c

-- ---- in one loop

-- so where the loop is entered from the node of this number
abbrev pub StoresIfEntering : Program → Known → (method : ℕ) → Digraph → (h local : ℕ) → ℤ → (number : ℕ) → Type 0
StoresIfEntering P known m g h k c v =
    (u : Node) → number_of u ≡ v → IsReached (IsEdge P m) u → IsEntering g h v h → AllStore P known m k u c

-- What is known of a beginning by the edges from some nodes to the header: the loop is entered by none of them; it is, and all that was stored is one int, with
-- which alone the local variable may begin; or it begins with no int.
abbrev pub IsKnownBeginning : Program → Known → (method : ℕ) → Digraph → (h local : ℕ) → (sources : List ℕ) → SoFar → Type 0
IsKnownBeginning P known m g h k us NotEntered = All (IsMember g h) us
IsKnownBeginning P known m g h k us (One c) = All (StoresIfEntering P known m g h k c) us × ((other : ℤ) → BeginsAt P known m g h k other → other ≡ c)
IsKnownBeginning P known m g h k us Unknown = (c : ℤ) → ¬ BeginsAt P known m g h k c

-- what is known once the loop is entered by one edge more, with this int or with none
abbrev pub IsJoined : (old : SoFar) → Option ℤ → (new : SoFar) → Type 0
IsJoined NotEntered (Some c) new = new ≡ One c
IsJoined (One d) (Some c) new = ((d ≡ c) × (new ≡ One c)) ⊎ ((d ≢ c) × (new ≡ Unknown))
IsJoined old o new = new ≡ Unknown

-- ---- of a list of beginnings

-- the local variable has its only step in the loop at the node, which is on each iteration
abbrev pub IsSteppedAt : Body → (h local node : ℕ) → Type 0
IsSteppedAt b h k u = (step : ℕ) × (s : ℤ) × (u ≡ 2 * step) × IsOnlyStep b h k step s × IsOnEachIteration b.graph h u

-- the entry is of a loop, and right
abbrev pub IsRight : Program → Known → (method : ℕ) → Digraph → Beginning → Type 0
IsRight P known m g x = IsHeader g x.header × BeginsAt P known m g x.header x.local x.value

-- With what these local variables begin in the loop was added to the list, where it is known, and nothing that isn't right.
pub record AddsBeginnings (P : Program) (known : Known) (m : ℕ) (g : Digraph) (h : ℕ) (Local : ℕ → Type 0) (old new : List Beginning) : Type 0 where
  pub kept : (x : Beginning) → Contains old x → Contains new x
  pub added : (x : Beginning) → Contains new x → Contains old x ⊎ IsRight P known m g x
  pub all : (k : ℕ) (c : ℤ) → Local k → BeginsAt P known m g h k c → Contains new (record { header = h; local = k; value = c })

-- all entries are right, and those are there of local variables that have their only step in a loop, on each iteration
pub record AreBeginnings (P : Program) (known : Known) (m : ℕ) (b : Body) (xs : List Beginning) : Type 0 where
  pub each : (x : Beginning) → Contains xs x → IsRight P known m b.graph x
  pub all : (h k u : ℕ) (c : ℤ) → IsSteppedAt b h k u → BeginsAt P known m b.graph h k c → Contains xs (record { header = h; local = k; value = c })

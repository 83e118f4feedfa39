-- What the counts are found from, and paths along edges that close no loop.
use Rattle.std.specs.Prelude.{◌≡◌, ℕ, ◌+◌, ◌*◌, ◌^◌, ◌<◌, ◌≤◌, ◌==◌, List, [], ◌∷◌, length, Contains, sum_by, count_by, slice_index}
use Rattle.loop_nest.specs.Nest.{NaturalLoop}
use Rattle.section_check.specs.Placing.{IsEntryAt}
use Rattle.path_solver.specs.Distances.{IsMost, cost_through, sources_at, IsReachedBy}
use Rattle.path_solver.specs.Problem.{IsMeasured}
use Rattle.path_solver.specs.Reaching.{IsFlagged}
use Rattle.bound_report.specs.declared.visits.problem.Problem.{Problem}

-- The pass is that of the graph, and its value has 64 bits.
pub record IsPosed (q : Problem) : Type 0 where
  pub measured : IsMeasured q.g.now q.nest.now q.found.now.listed.items q.found.now.topology q.costs.now q.bounds.now
      q.loads.now q.found.now.iteration_costs.items q.found.now.fees.items q.found.now.dist.items
  pub entry : IsFlagged q.found.now.listed.items 0
  pub most : IsMost (cost_through q.costs.now q.found.now.dist.items) q.g.now.exits q.found.now.value
  pub small : q.found.now.value < 2 ^ 64
  pub few : q.g.now.nodes < 2 ^ 32

abbrev pub cost_of_node : Problem → ℕ → ℕ
cost_of_node q u = slice_index q.costs.now u

abbrev pub fee_of : Problem → ℕ → ℕ
fee_of q u = slice_index q.found.now.fees.items u

-- the nodes from which edges that close no loop lead to u
abbrev pub sources : Problem → ℕ → List ℕ
sources q u = sources_at q.found.now.topology.forward u

-- u has its distance by nodes inside from which edges lead to it, of which there are some
pub record IsReachedInside (q : Problem) (dist inside : List ℕ) (u : ℕ) : Type 0 where
  pub by : IsReachedBy (sources q) q.costs.now q.found.now.fees.items dist u
  pub source : ℕ
  pub is_source : Contains (sources q u) source
  pub all_inside : (p : ℕ) → Contains (sources q u) p → Contains inside p

-- a path along such edges, and its nodes
pub data Path (q : Problem) : ℕ → ℕ → List ℕ → Type 0 where
  rests : {u : ℕ} → Path q u u (u ∷ [])
  steps : {u v w : ℕ} {ns : List ℕ} → Contains (sources q v) u → Path q v w ns → Path q u w (u ∷ ns)

-- the nodes of some path, whose costs and fees are the distance between its ends, were counted so many times
pub record IsPathAdded (q : Problem) (dist : List ℕ) (start end count : ℕ) (old new : List ℕ) : Type 0 where
  pub rest : List ℕ
  pub path : Path q start end (start ∷ rest)
  pub once : ¬ Contains rest start
  pub single : (u : ℕ) → count_by (λ x. x == u) (start ∷ rest) ≤ 1
  pub cost : sum_by (λ x. cost_of_node q x + fee_of q x) (start ∷ rest) + slice_index dist start ≡ cost_of_node q end + slice_index dist end + fee_of q start
  pub long : length new ≡ length old
  pub added : (u : ℕ) → slice_index new u ≡ slice_index old u + count * count_by (λ x. x == u) (start ∷ rest)

-- the nodes of a path from the entry to an exit of the value were counted once, and no others
pub record IsWalkAdded (q : Problem) (visits : List ℕ) : Type 0 where
  pub exit : ℕ
  pub among : Contains q.g.now.exits exit
  pub value : cost_of_node q exit + slice_index q.found.now.dist.items exit ≡ q.found.now.value
  pub zeros : List ℕ
  pub none : (u : ℕ) → slice_index zeros u ≡ 0
  pub added : IsPathAdded q q.found.now.dist.items 0 exit 1 zeros visits

-- the nodes of a dearest iteration of loop i were counted so often
pub record IsRound (q : Problem) (i count : ℕ) (old new : List ℕ) : Type 0 where
  pub loop : NaturalLoop
  pub at : IsEntryAt q.nest.now i loop
  pub dist : List ℕ
  pub start : slice_index dist loop.header ≡ 0
  pub last : ℕ
  pub back : Contains (sources_at q.found.now.topology.back loop.header) last
  pub cost : cost_of_node q last + slice_index dist last ≡ slice_index q.found.now.iteration_costs.items i
  pub added : IsPathAdded q dist loop.header last count old new

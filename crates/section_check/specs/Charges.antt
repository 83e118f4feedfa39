-- What a walk costs, step by step: its start, its nodes and its edges are charged.
use Rattle.std.specs.Prelude.{◌≡◌, ℕ, ◌+◌, ◌≤◌, not, ◌&&◌, if◌then◌else◌, List, [], ◌∷◌, slice_index, sum_by, Contains}
use Rattle.section_check.specs.Bounded.{BoundedLoop, holds, cost_of}

-- what a start at u is charged: the loads of the loops that hold it
abbrev pub start_charge : List BoundedLoop → ℕ → ℕ
start_charge loops u = sum_by (λ l. if holds l.members u then l.load else 0) loops

-- what going from u to v is charged: the loads of the loops that hold v and not u
abbrev pub edge_charge : List BoundedLoop → ℕ → ℕ → ℕ
edge_charge loops u v = sum_by (λ l. if holds l.members v && not (holds l.members u) then l.load else 0) loops

-- what going on from u over these nodes is charged: each node its cost, and each edge from one to the next
abbrev pub walk_charge : List ℕ → List BoundedLoop → ℕ → List ℕ → ℕ
walk_charge costs loops u [] = slice_index costs u
walk_charge costs loops u (v ∷ vs) = slice_index costs u + edge_charge loops u v + walk_charge costs loops v vs

-- a walk costs what its start, its nodes and its edges are charged
abbrev pub CostsAreCharged : Type 0
CostsAreCharged = (costs : List ℕ) (loops : List BoundedLoop) (u : ℕ) (vs : List ℕ)
    → cost_of costs loops (u ∷ vs) ≡ start_charge loops u + walk_charge costs loops u vs

-- a start in a loop pays its load
abbrev pub StartsPayLoads : Type 0
StartsPayLoads = (loops : List BoundedLoop) (l : BoundedLoop) (u : ℕ) → Contains loops l → Contains l.members u → l.load ≤ start_charge loops u

-- an edge into a loop from outside pays its load
abbrev pub EdgesPayLoads : Type 0
EdgesPayLoads = (loops : List BoundedLoop) (l : BoundedLoop) (u v : ℕ) → Contains loops l → Contains l.members v → ¬ Contains l.members u
    → l.load ≤ edge_charge loops u v

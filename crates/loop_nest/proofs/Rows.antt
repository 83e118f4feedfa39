-- Small graphs on which the definitions compute what one sees.
use Rattle.std.proofs.Common.{◌≡◌, ℕ, [], ◌∷◌, map, filter, not, refl, lit<}
use Rattle.loop_nest.specs.Digraph.{Digraph, sources_of, targets_of}
use Rattle.loop_nest.specs.Walks.{Walk, back_edges_to}
use Rattle.loop_nest.specs.Walks.Walk.{stay, along}
use Rattle.loop_nest.specs.Reduction.{whole, is_self_edge, renamed}

-- 0 to 1, around 1 and 2, and out to 3
abbrev small : Digraph
small = record { nodes = 4; edges = (0, 1) ∷ (1, 2) ∷ (1, 3) ∷ (2, 1) ∷ []; exits = 3 ∷ [] }

sources : sources_of small.edges 1 ≡ 0 ∷ 2 ∷ []
sources = refl

targets : targets_of small.edges 1 ≡ 2 ∷ 3 ∷ []
targets = refl

nodes : (whole small).nodes ≡ 0 ∷ 1 ∷ 2 ∷ 3 ∷ []
nodes = refl

-- 2 is merged into 1: the edges between them become one from 1 to itself, twice
after_merge : map {B = ℕ × ℕ} (λ (e : ℕ × ℕ). (renamed 2 1 e.0, renamed 2 1 e.1)) small.edges ≡ (0, 1) ∷ (1, 1) ∷ (1, 3) ∷ (1, 1) ∷ []
after_merge = refl

after_drop : filter (λ (e : ℕ × ℕ). not (is_self_edge 1 e)) ((0, 1) ∷ (1, 1) ∷ (1, 3) ∷ (1, 1) ∷ []) ≡ (0, 1) ∷ (1, 3) ∷ []
after_drop = refl

-- a stay of five nodes takes two back edges, one node alone none
two_iterations : back_edges_to 1 (1 ∷ 2 ∷ 1 ∷ 2 ∷ 1 ∷ []) ≡ 2
two_iterations = refl

no_iteration : back_edges_to 1 (1 ∷ []) ≡ 0
no_iteration = refl

-- a stay that begins inside the loop
begun_inside : back_edges_to 1 (2 ∷ 1 ∷ 2 ∷ []) ≡ 1
begun_inside = refl

walk : Walk small 0 3 (0 ∷ 1 ∷ 2 ∷ 1 ∷ 3 ∷ [])
walk = along (0, lit< tt, refl) (along (1, lit< tt, refl) (along (3, lit< tt, refl) (along (2, lit< tt, refl) stay)))

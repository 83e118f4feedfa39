-- A node that each iteration visits once, by the nodes that are reached without it.
use Rattle.std.proofs.Common.{◌≡◌, ℕ, ◌<◌, Bool, true, false, List, get_or, All, Contains, sym, subst, inl, inr}
use Rattle.std.proofs.lemmas.Bool.{both_ways, cases_Bool, cases_eq}
use Rattle.std.proofs.lemmas.List.Elements.{All-contains, All-from_get_or, Contains-get_or}
use Rattle.loop_nest.specs.Digraph.{Digraph, IsDigraph, Edge, sources_of}
use Rattle.loop_nest.specs.Walks.{IsMember}
use Rattle.loop_nest.specs.Laws.{EdgesToHeaderAreBackEdges}
use Rattle.loop_nest.proofs.Ends.{ends_within}
use Rattle.loop_nest.proofs.Searching.{sources_has, from_sources}
use Rattle.loop_rules.specs.Iterations.{IsOnEachIteration}
use Rattle.loop_marks.specs.Reach.{flag_at}
use Rattle.loop_marks.specs.Marking.{Marks, AreMarksOf, IsWithout}
use Rattle.loop_marks.proofs.Reaching.{last_visited}

-- ---- the sources of the edges to a node

pub edge_at : (g : Digraph) (v : ℕ) (xs : List ℕ) → xs ≡ sources_of g.edges v → (u : ℕ) → Contains xs u → Edge g u v
edge_at g v xs is u has = from_sources g.edges u v (subst (λ (ys : List ℕ). Contains ys u) is has)

pub sources_below : (g : Digraph) → IsDigraph g → (v : ℕ) (xs : List ℕ) → xs ≡ sources_of g.edges v → All (λ u. u < g.nodes) xs
sources_below g wf v xs is = All-from_get_or (λ u. u < g.nodes) xs 0 (λ i lt. let u = get_or xs i 0 in (ends_within wf u v (edge_at g v xs is u (Contains-get_or xs i 0 lt))).0)

-- what holds of each of them holds at each edge
pub at_edges : (P : ℕ → Type 0) (g : Digraph) (v : ℕ) (xs : List ℕ) → xs ≡ sources_of g.edges v → All P xs → (u : ℕ) → Edge g u v → P u
at_edges P g v xs is all u e = All-contains P xs u all (subst (λ (ys : List ℕ). Contains ys u) (sym is) (sources_has g.edges u v e))

pub from_edges : (P : ℕ → Type 0) (g : Digraph) (v : ℕ) (xs : List ℕ) → xs ≡ sources_of g.edges v → ((u : ℕ) → Edge g u v → P u) → All P xs
from_edges P g v xs is each = All-from_get_or P xs 0 (λ i lt. each (get_or xs i 0) (edge_at g v xs is (get_or xs i 0) (Contains-get_or xs i 0 lt)))

-- ---- a node on each iteration

module _ (g : Digraph) (k : Marks) (x : ℕ) (without : List Bool) (are : AreMarksOf g k) (is : IsWithout g k.header x without) where
  -- no edge to the header comes from a node that is reached without x
  abbrev pub NoneComes : Type 0
  NoneComes = (u : ℕ) → Edge g u k.header → flag_at without u ≡ false

  pub is_turn : flag_at k.members x ≡ true → flag_at k.inner x ≡ false → NoneComes → IsOnEachIteration g k.header x
  is_turn member outer none = record {
    member = (are.members x).0 member;
    passed = λ u back w. both_ways (flag_at without u) (none u back.edge) ((is u).1 w);
    once = λ other header has within. elim (cases_eq other k.header) [
      | inl same ↦ same
      | inr differs ↦ absurd (both_ways (flag_at k.inner x) outer ((are.inner x).1 (record { other = other; header = header; member = has; within = within; differs = differs })))
    ];
  }

  pub turn_inner : IsOnEachIteration g k.header x → flag_at k.inner x ≡ false
  turn_inner t =
      elim (cases_Bool (flag_at k.inner x)) [
        | inl set' ↦ let n = (are.inner x).0 set' in absurd (n.differs (t.once n.other n.header n.member n.within))
        | inr unset ↦ unset
      ]

  pub turn_comes : EdgesToHeaderAreBackEdges → IsOnEachIteration g k.header x → NoneComes
  turn_comes back t u edge =
      elim (cases_Bool (flag_at without u)) [
        | inl set' ↦
            let w = (is u).0 set' in
            let member = All-contains (IsMember g k.header) w.0 u w.2 (last_visited w.1) in
            absurd (t.passed u (back g k.header u member edge) w)
        | inr unset ↦ unset
      ]

-- The loops of a shape: their nodes are nodes of the shape, and which of them make objects.
use Rattle.std.proofs.Common.{◌≡◌, ◌↔◌, ℕ, ◌+◌, ◌*◌, ◌<◌, ◌≤◌, Bool, false, List, [], ◌∷◌, ◌++◌, length, map, get_or, All, Contains, Some, refl, sym, ap, ◌∙◌, subst, inl, inr, arith}
use Rattle.std.specs.Prelude.{IsTrue, slice_get, slice_index_or}
use Rattle.std.proofs.lemmas.Bool.{cases_lt}
use Rattle.std.proofs.lemmas.List.{get_or_append_left, get_or_push}
use Rattle.std.proofs.lemmas.List.Elements.{Contains-get_or}
use Rattle.std.proofs.lemmas.Option.{slice_get-get_or}
use Rattle.lists.proofs.Lemmas.{some_same}
use Rattle.loop_nest.specs.Digraph.{Digraph}
use Rattle.loop_nest.specs.Walks.{IsMember}
use Rattle.loop_nest.specs.Nest.{NaturalLoop, members_at, IsLoopOf}
use Rattle.bytecode_model.specs.Program.{Program}
use Rattle.compact_walks.proofs.Loops.{no_loop, members_of, member_within}
use Rattle.memory_rules.specs.Heap.{PlaceMakesObjects}
use Rattle.memory_bound.specs.declared.shapes.Shape.{Shape}
use Rattle.memory_bound.specs.HeapLaws.{AreHeapLaws}
use Rattle.memory_bound.specs.Shapes.{node_of, members_in, IsShapeIn, IsShapeOf}
use Rattle.memory_bound.specs.Found.{BeginInstructions}
use Rattle.memory_bound.specs.Loops.{AreMakingLoops}
use Rattle.memory_bound.proofs.SameEdges.{member_as}
use Rattle.memory_bound.proofs.Compacting.{edge_out, edge_in}
use Rattle.memory_bound.proofs.LoopsMade.{making_is, member_starts}

-- ---- nodes of loops

module _ (g : Digraph) (s : Shape) (shape : IsShapeIn g s) (l : NaturalLoop) (loop : IsLoopOf s.graph l) where
  below : (x : ℕ) → IsMember s.graph l.header x → x < length s.nodes
  below x member =
      let there : IsMember shape.compact l.header x = member_as s.graph shape.compact (edge_out g s shape) (edge_in g s shape) l.header x member in
      let lt = member_within {g = shape.compact} l.header x shape.is_compact.digraph there in
      let long = shape.long in
      omega arith

  all_below : All (λ u. u < length s.nodes) l.members
  all_below k d lt = below (get_or l.members k d) ((loop.members (get_or l.members k d)).0 (Contains-get_or l.members k d lt))

  head_below : l.header < length s.nodes
  head_below = below l.header (loop.header, inl refl)

module _ (g : Digraph) (s : Shape) (shape : IsShapeIn g s) (i : ℕ) (l : NaturalLoop) (lt : i < length s.nest) (is : l ≡ get_or s.nest i l) where
  loop_at : IsLoopOf s.graph l
  loop_at = subst (λ (x : NaturalLoop). IsLoopOf s.graph x) (sym is) (shape.nest.loops i l lt)

  pub members_below : All (λ u. u < length s.nodes) l.members
  members_below = all_below g s shape l loop_at

  pub header_below : l.header < length s.nodes
  header_below = head_below g s shape l loop_at

-- ---- which loops make objects

-- one loop more
pub one_more_loop : (ls : List NaturalLoop) (making : List Bool) (i : ℕ) (l : NaturalLoop) (b : Bool) (Holds : NaturalLoop → Bool → Type 0) → length making ≡ i
    → slice_get ls i ≡ Some l → Holds l b
    → ((k : ℕ) (x : NaturalLoop) → k < i → slice_get ls k ≡ Some x → Holds x (slice_index_or making k false))
    → (k : ℕ) (x : NaturalLoop) → k < i + 1 → slice_get ls k ≡ Some x → Holds x (slice_index_or (making ++ b ∷ []) k false)
one_more_loop ls making i l b Holds long is here before k x lt at =
    elim (cases_lt k i) [
      | inl less ↦ subst (λ (v : Bool). Holds x v) (sym (get_or_append_left making (b ∷ []) false k (omega arith))) (before k x less at)
      | inr le ↦
          let same : i ≡ k = omega arith in
          let same_loop : l ≡ x = some_same l x (sym is ∙ (ap (λ (j : ℕ). slice_get ls j) same ∙ at)) in
          subst (λ (v : Bool). Holds x v) (sym (get_or_push making b false k (omega arith))) (subst (λ (y : NaturalLoop). Holds y b) same_loop here)
    ]

module _ (laws : AreHeapLaws) (P : Program) (m : ℕ) (s : Shape) (of : IsShapeOf P m s) (starts : BeginInstructions P m s.nodes) (making : List Bool)
    (each : (k : ℕ) (x : NaturalLoop) → k < length s.nest → slice_get s.nest k ≡ Some x → BeginInstructions P m (members_in s.nodes x)
    → IsTrue (slice_index_or making k false) ↔ ((p : ℕ) × Contains (members_in s.nodes x) (2 * p) × PlaceMakesObjects P m p)) where
  pub making_loops_are : AreMakingLoops P m s making
  making_loops_are = making_is laws.moves laws.nests laws.one P m s of making tells
    where
      tells : (i : ℕ) → i < length s.nest → IsTrue (slice_index_or making i false) ↔ ((p : ℕ) × Contains (map (node_of s) (members_at s.nest i)) (2 * p) × PlaceMakesObjects P m p)
      tells i lt =
          let l : NaturalLoop = get_or s.nest i no_loop in
          let same : members_at s.nest i ≡ l.members = members_of s.nest i no_loop lt in
          let there = each i l lt (slice_get-get_or s.nest i no_loop lt) in
          let K : List ℕ → Type 0 = λ ms. BeginInstructions P m (map (node_of s) ms) → IsTrue (slice_index_or making i false) ↔ ((p : ℕ) × Contains (map (node_of s) ms) (2 * p) × PlaceMakesObjects P m p) in
          let told = subst K (sym same) there in
          told (member_starts laws.moves laws.nests laws.one P m s of starts i lt)

-- the same by the items of a loop over the nest
pub making_items_are : AreHeapLaws → (P : Program) (m : ℕ) (s : Shape) → IsShapeOf P m s → BeginInstructions P m s.nodes → (making : List Bool) (ns : List ℕ) (ls : List NaturalLoop) (i : ℕ) → ns ≡ s.nodes → ls ≡ s.nest
    → length ls ≤ i
    → ((k : ℕ) (x : NaturalLoop) → k < i → slice_get ls k ≡ Some x → BeginInstructions P m (members_in ns x)
    → IsTrue (slice_index_or making k false) ↔ ((p : ℕ) × Contains (members_in ns x) (2 * p) × PlaceMakesObjects P m p))
    → AreMakingLoops P m s making
making_items_are laws P m s of starts making ns ls i same_nodes same_loops end all =
    making_loops_are laws P m s of starts making
    (subst (λ (us : List ℕ). (k : ℕ) (x : NaturalLoop) → k < length s.nest → slice_get s.nest k ≡ Some x → BeginInstructions P m (members_in us x)
    → IsTrue (slice_index_or making k false) ↔ ((p : ℕ) × Contains (members_in us x) (2 * p) × PlaceMakesObjects P m p)) same_nodes
    (subst (λ (ks : List NaturalLoop). (k : ℕ) (x : NaturalLoop) → k < length ks → slice_get ks k ≡ Some x → BeginInstructions P m (members_in ns x)
    → IsTrue (slice_index_or making k false) ↔ ((p : ℕ) × Contains (members_in ns x) (2 * p) × PlaceMakesObjects P m p)) same_loops (λ k x lt at. all k x (omega arith) at)))

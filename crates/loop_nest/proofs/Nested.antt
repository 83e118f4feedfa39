-- The loops of a reducible graph.
use Rattle.std.proofs.Common.{◌≡◌, ℕ, suc, ◌<◌, ◌≤◌, Bool, zero, List, [], ◌∷◌, length, get_or, filter, eqb, All, sym, ◌∙◌, subst, inl, inr, arith}
use Rattle.std.specs.List.{range_with_len}
use Rattle.std.specs.List.Sorted.{IsStrictlyIncreasing}
use Rattle.std.proofs.lemmas.Bool.{cases_eq}
use Rattle.std.proofs.lemmas.List.Elements.{All-get_or, Contains-get_or}
use Rattle.lists.specs.Members.{rising_pair, nil_contains}
use Rattle.loop_nest.specs.Digraph.{Digraph, IsDigraph}
use Rattle.loop_nest.specs.Walks.{Dominates, IsMember, IsReachable}
use Rattle.loop_nest.specs.Reduction.{Leaves}
use Rattle.loop_nest.specs.Classes.{NoneCanMerge}
use Rattle.loop_nest.specs.Entered.{class_of, names, edge_at, IsClassList, AreAllReached, AreBackEdgesMarked, AreBackEdgesTold, AreBackEdges}
use Rattle.loop_nest.specs.Nest.{IsNest}
use Rattle.loop_nest.proofs.Around.{not_around}
use Rattle.loop_nest.proofs.Nesting.{first_of}
use Rattle.loop_nest.proofs.Classes.{start_visited}
use Rattle.loop_nest.proofs.Quotients.{leaves_of}
use Rattle.loop_nest.proofs.Ends.{ends_within, all_merged, visited_within, reducible_is_reached}

pub dominates_both : {g : Digraph} (a b : ℕ) → IsReachable g a → Dominates g a b → Dominates g b a → a ≡ b
dominates_both {g} a b reached ab ba =
    elim (cases_eq a b) [
      | inl same ↦ same
      | inr apart ↦
          elim (first_of b a (λ e. apart (sym e)) reached.1 (ba reached.0 reached.1)) [
            | inl to_b ↦ absurd (not_around ab to_b)
            | inr to_a ↦ absurd (not_around ba to_a)
          ]
    ]

pub member_within : {g : Digraph} (h x : ℕ) → IsDigraph g → IsMember g h x → x < g.nodes
member_within {g} h x wf m =
    elim m.1 [
      | inl same ↦ let b = m.0.1 in let P : ℕ → Type 0 = λ z. z < g.nodes in subst P (sym same) (ends_within wf m.0.0 h b.edge).1
      | inr r ↦
          visited_within wf r.leads.1 (ends_within wf r.source h r.back_edge.edge).0 x (start_visited r.leads.1)
    ]

-- rising numbers below n are at most n
place_below : (xs : List ℕ) → IsStrictlyIncreasing xs → (i : ℕ) → i < length xs → i ≤ get_or xs i 0
place_below xs h zero lt = omega arith
place_below xs h (suc i) lt =
    let before = place_below xs h i (omega arith) in
    let step = rising_pair xs h i (suc i) (omega arith) lt in
    omega arith

pub few_below : (xs : List ℕ) (n : ℕ) → IsStrictlyIncreasing xs → All (λ x. x < n) xs → length xs ≤ n
few_below [] n h below = omega arith
few_below (x ∷ xs) n h below =
    let last = place_below (x ∷ xs) h (length xs) (omega arith) in
    let lt = All-get_or (λ (y : ℕ). y < n) (x ∷ xs) (length xs) 0 (omega arith) below in
    omega arith

pub told_of : (g : Digraph) (class : List ℕ) (back : List Bool) → IsDigraph g → IsClassList g class → NoneCanMerge g (class_of class) → names class ≡ 0 ∷ [] → AreBackEdgesMarked g class back → AreBackEdgesTold g back
told_of g class back wf h none alone marks =
    let nodes : names class ≡ 0 ∷ [] = alone in
    let P : ℕ → Type 0 = λ n. filter (λ a. eqb (class_of class a) a) (range_with_len 0 n) ≡ 0 ∷ [] in
    let names_are = subst P h.long nodes in
    let reached : AreAllReached g = reducible_is_reached g wf (leaves_of [] h.merged none names_are) in
    record {
      long = marks.long;
      each = λ i lt inner.
          let edge = ends_within wf (edge_at g.edges i).0 (edge_at g.edges i).1 (Contains-get_or g.edges i (0, 0) lt) in
          let merged_to = all_merged wf h.merged names_are (edge_at g.edges i).1 edge.1 in
          marks.each reached i lt (λ e. inner (sym e ∙ merged_to));
    }

pub leaves_names : (g : Digraph) (class left : List ℕ) → IsClassList g class → NoneCanMerge g (class_of class) → names class ≡ 0 ∷ left → Leaves g left
leaves_names g class left h none is =
    let P : ℕ → Type 0 = λ n. filter (λ a. eqb (class_of class a) a) (range_with_len 0 n) ≡ 0 ∷ left in
    leaves_of left h.merged none (subst P h.long is)

-- a graph without back edges has no loops
pub no_loops : (g : Digraph) → AreBackEdges g [] → IsNest g []
no_loops g none = record {
  rising = λ i lt. absurd (omega arith);
  loops = λ i d lt. absurd (omega arith);
  complete = λ h header. absurd (nil_contains (header.0, h) ((none header.0 h).1 header.1));
  outer = λ i lt. absurd (omega arith);
}

-- What a method's shape and the words of its nodes tell of its heap need.
use Rattle.std.proofs.Common.{◌≡◌, ℕ, ◌*◌, List, length, Option, Some, None, Result, Ok, Err, IfOk, ◌∙◌, subst, arith}
use Rattle.std.specs.Prelude.{MatchOption, replicate}
use Rattle.std.proofs.lemmas.List.{get_or_default}
use Rattle.loop_nest.specs.Walks.{IsReachable}
use Rattle.section_check.specs.Bounded.{IsGreatest}
use Rattle.path_solver.specs.Longest.{bounded_loops, WalkExceeds}
use Rattle.bytecode_model.specs.Program.{Program}
use Rattle.method_flow.specs.Keeping.{BoundOf}
use Rattle.method_flow.specs.Regions.IsWithin.{itself, calls}
use Rattle.bound_rules.specs.Laws.{ReachesStarts}
use Rattle.memory_rules.specs.Heap.{OfMethod}
use Rattle.memory_bound.specs.declared.found.Found.{Found}
use Rattle.memory_bound.specs.declared.shapes.Shape.{Shape}
use Rattle.memory_bound.specs.HeapLaws.{AreHeapLaws}
use Rattle.memory_bound.specs.Shapes.{node_of, IsShapeOf}
use Rattle.memory_bound.specs.Found.{AreFound, BeginInstructions, HaveBoundsWithin, Exceeds, IsMostOr, KnowHeaps}
use Rattle.memory_bound.specs.Loops.{AreBoundsOf}
use Rattle.memory_bound.specs.Words.{AreNodeWords, SomeExceeds}
use Rattle.memory_bound.proofs.Compacting.{reached_out}
use Rattle.memory_bound.proofs.Needing.{greatest_is_need, exceeding_walk, exceeding_node}
use Rattle.memory_bound.proofs.Reaching.{start_reached}

-- what holds of a value holds in another way
pub if_ok_as : {A E : Type 0} (r : Result A E) (P Q : A → Type 0) → IfOk r P → ((x : A) → P x → Q x) → IfOk r Q
if_ok_as (Ok x) P Q h as' = as' x h
if_ok_as (Err e) P Q h as' = h

-- the instructions among the nodes of a shape begin at starts
pub shape_starts : (P : Program) (m : ℕ) (s : Shape) → ReachesStarts P m → IsShapeOf P m s → BeginInstructions P m s.nodes
shape_starts P m s starts of p has =
    let lt = has.1 in
    let long = of.shape.long in
    let at : node_of s has.0 ≡ 2 * p = get_or_default s.nodes has.0 0 (2 * p) has.1 ∙ has.2 in
    let reach = reached_out of.graph s of.shape has.0 (omega arith) in
    start_reached P m of.graph of.is_graph starts p (subst (λ (x : ℕ). IsReachable of.graph x) at reach)

-- the heap needs of what the method may call are known
pub know_heaps : (P : Program) (bounds lengths : BoundOf) (table : List Found) (m : ℕ) → AreFound P bounds lengths table m → HaveBoundsWithin P bounds m → KnowHeaps P bounds lengths table m
know_heaps P bounds lengths table m found have t may = (found t may).heap (λ x within. have x (calls may.place may.start may.call may.is_target within))

module _ (laws : AreHeapLaws) (P : Program) (bounds lengths : BoundOf) (m : ℕ) (s : Shape) (of : IsShapeOf P m s) (have : HaveBoundsWithin P bounds m) (given : List ℕ) (are : AreBoundsOf P bounds m s given) where
  pub by_walk : (words : List ℕ) → AreNodeWords P bounds lengths m s.nodes words → (o : Option ℕ)
      → MatchOption o (WalkExceeds s.graph words (bounded_loops s.nest given (replicate (length s.nest) 0))) (IsGreatest s.graph words (bounded_loops s.nest given (replicate (length s.nest) 0)))
      → IsMostOr P bounds lengths (OfMethod m) o
  by_walk words node_words None e = exceeding_walk laws.moves laws.nests laws.one laws.instructions P bounds lengths m s of (have m itself) given are words node_words e
  by_walk words node_words (Some value) greatest =
      greatest_is_need laws.moves laws.nests laws.one laws.instructions P bounds lengths m s of (have m itself) given are words node_words laws.dominates laws.nested laws.antisymmetric value greatest

  pub by_node : SomeExceeds P bounds lengths m s.nodes → Exceeds P bounds lengths (OfMethod m)
  by_node e = exceeding_node laws.moves laws.nests laws.one laws.instructions P bounds lengths m s of (have m itself) given are laws.within e

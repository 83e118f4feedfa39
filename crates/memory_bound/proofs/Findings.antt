-- What is found among the nodes of a shape is so of the method.
use Rattle.std.proofs.Common.{◌≡◌, ◌↔◌, ℕ, ◌*◌, Bool, Contains, Option, Some, None, ◌∙◌, subst, inl, inr, arith}
use Rattle.std.specs.Prelude.{IsTrue}
use Rattle.std.proofs.lemmas.List.{get_or_default}
use Rattle.lists.specs.Members.{contains_at}
use Rattle.loop_nest.specs.Digraph.{Digraph}
use Rattle.loop_nest.specs.Walks.{IsReachable}
use Rattle.bytecode_model.specs.Program.{Program}
use Rattle.method_flow.specs.Keeping.{BoundOf}
use Rattle.bound_rules.specs.Laws.{GraphsAreOne}
use Rattle.memory_rules.specs.Heap.{IsOn, MakesObjects, PlaceMakesObjects}
use Rattle.memory_rules.specs.Heap.MakesObjects.{itself, calling}
use Rattle.memory_bound.specs.declared.shapes.Shape.{Shape}
use Rattle.memory_bound.specs.Shapes.{node_of, IsShapeOf}
use Rattle.memory_bound.specs.Found.{HasArrayLength, IsFirstUnlimitedOf}
use Rattle.memory_bound.specs.Lengths.{AreOn, IsFirstAmong}
use Rattle.memory_bound.proofs.Compacting.{reached_out}

module _ (one : GraphsAreOne) (P : Program) (m : ℕ) (s : Shape) (of : IsShapeOf P m s) where
  -- the nodes of a shape are those that are reached
  pub on_is : (p : ℕ) → Contains s.nodes (2 * p) → IsOn P m of.graph p
  on_is p has =
      let lt = has.1 in
      let long = of.shape.long in
      let at : node_of s has.0 ≡ 2 * p = get_or_default s.nodes has.0 0 (2 * p) has.1 ∙ has.2 in
      record { graph = of.is_graph; reached = subst (λ (x : ℕ). IsReachable of.graph x) at (reached_out of.graph s of.shape has.0 (omega arith)) }

  pub are_on : AreOn P m s.nodes
  are_on p has = (of.graph, on_is p has)

  pub is_on : (g : Digraph) (p : ℕ) → IsOn P m g p → Contains s.nodes (2 * p)
  is_on g p on =
      let same : g ≡ of.graph = one P m g of.graph on.graph of.is_graph in
      let reach : IsReachable of.graph (2 * p) = subst (λ (h : Digraph). IsReachable h (2 * p)) same on.reached in
      let r = of.shape.is_compact.all (2 * p) reach in
      let long = of.shape.long in
      let lt = r.1 in
      contains_at s.nodes r.0 (2 * p) (omega arith) r.2

  pub makes_is : (b : Bool) → (IsTrue b ↔ ((p : ℕ) × Contains s.nodes (2 * p) × PlaceMakesObjects P m p)) → IsTrue b ↔ MakesObjects P m
  makes_is b both = (λ yes. made (both.0 yes), λ makes. both.1 (place makes))
    where
      made : ((p : ℕ) × Contains s.nodes (2 * p) × PlaceMakesObjects P m p) → MakesObjects P m
      made (p, has, inl at) = itself (on_is p has) at
      made (p, has, inr called) = calling (on_is p has) called.1 called.2

      place : MakesObjects P m → (p : ℕ) × Contains s.nodes (2 * p) × PlaceMakesObjects P m p
      place (itself {p = p} {g = g} on at) = (p, is_on g p on, inl at)
      place (calling {p = p} {t = t} {g = g} on target makes) = (p, is_on g p on, inr (t, target, makes))

  module _ (lengths : BoundOf) where
    -- an instruction that isn't reached makes no arrays
    elsewhere : (p : ℕ) → (Contains s.nodes (2 * p) → HasArrayLength P lengths m p) → HasArrayLength P lengths m p
    elsewhere p h arrays = h (is_on arrays.graph p arrays.on) arrays

    pub first_unlimited_is : (o : Option ℕ) → IsFirstAmong P lengths m s.nodes o → IsFirstUnlimitedOf P lengths m o
    first_unlimited_is None none = λ p. elsewhere p (none p)
    first_unlimited_is (Some p) first = (first.1, λ q less. elsewhere q (first.2 q less))

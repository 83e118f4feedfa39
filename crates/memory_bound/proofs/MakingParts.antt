-- What may make words makes objects.
use Rattle.std.proofs.Common.{◌≡◌, ℕ, ◌*◌, ◌⊎◌, List, [], ◌∷◌, ◌++◌, Contains, Option, Some, refl, inl, inr, arith}
use Rattle.lists.specs.Members.{at_head, in_tail}
use Rattle.loop_nest.specs.Digraph.{Digraph}
use Rattle.loop_nest.specs.Walks.{Walk, IsReachable}
use Rattle.bytecode_model.specs.Program.{Program}
use Rattle.method_flow.specs.Nodes.{Node, At, RaiseAt, number_of}
use Rattle.method_flow.specs.Graphs.{IsGraphOf}
use Rattle.method_flow.specs.Keeping.{BoundOf}
use Rattle.memory_rules.specs.Heap.{Made, AnObject, AnArray, MostWords, MakesObjects, PlaceMakesObjects, Part, OfMethod, OfWalk, OfNode, MayMake}
use Rattle.memory_rules.specs.Heap.MostWords.{object, constant, listed}
use Rattle.memory_rules.specs.Heap.MakesObjects.{itself, calling}
use Rattle.memory_rules.specs.Heap.MayMake.{stops, nowhere, visits, nothing, makes, runs}
use Rattle.memory_bound.proofs.Cutting.{last_split, walk_parts}

-- the node does
abbrev pub NodeMakes : Program → (method : ℕ) → Node → Type 0
NodeMakes P m (At p) = PlaceMakesObjects P m p
NodeMakes P m (RaiseAt p) = ⊥

-- the part does
abbrev pub PartMakes : Program → Part → Type 0
PartMakes P (OfMethod m) = MakesObjects P m
PartMakes P (OfWalk m ns) = (u : Node) × Contains ns (number_of u) × NodeMakes P m u
PartMakes P (OfNode m u) = NodeMakes P m u

-- what has words is made
pub most_is_made : {P : Program} {lengths : BoundOf} {m p w : ℕ} {o : Option Made} → MostWords P lengths m p o w → (x : Made) × (o ≡ Some x)
most_is_made (object {w}) = (AnObject w, refl)
most_is_made (constant {element} pushed) = (AnArray element, refl)
most_is_made (listed {element} no_constant given) = (AnArray element, refl)

-- a node that a walk from the entry visits is reached
pub visited_reached : {g : Digraph} {last : ℕ} {ns : List ℕ} (x : ℕ) → Walk g 0 last ns → Contains ns x → IsReachable g x
visited_reached {ns = ns} x walk has = let r = last_split ns x has in let parts = walk_parts walk r.0 r.1 x r.2 in (r.0 ++ x ∷ [], parts.0)

module _ (P : Program) (bounds lengths : BoundOf) where
  of_walk : {m last : ℕ} {g : Digraph} {ns : List ℕ} → IsGraphOf P m g → Walk g 0 last ns → PartMakes P (OfWalk m ns) → MakesObjects P m
  of_walk is walk (At p, has, inl at) = itself (record { graph = is; reached = visited_reached (2 * p) walk has }) at
  of_walk is walk (At p, has, inr called) = calling (record { graph = is; reached = visited_reached (2 * p) walk has }) called.1 called.2
  of_walk is walk (RaiseAt p, has, never) = absurd never

  pub none_or_makes : {part : Part} {w : ℕ} → MayMake P bounds lengths part w → (w ≡ 0) ⊎ PartMakes P part
  none_or_makes (stops is walk kept may) =
      elim (none_or_makes may) [
        | inl none ↦ inl none
        | inr made ↦ inr (of_walk is walk made)
      ]
  none_or_makes nowhere = inl refl
  none_or_makes (visits {m} {v} {w} {u} {ns} node rest) =
      elim (none_or_makes node) [
        | inr made ↦ inr (u, at_head (number_of u) ns, made)
        | inl none ↦
            elim (none_or_makes rest) [
              | inl also ↦ inl (omega arith)
              | inr made ↦ inr (made.0, in_tail (number_of u) (number_of made.0) ns made.1, made.2)
            ]
      ]
  none_or_makes nothing = inl refl
  none_or_makes (makes {next = next} {r = r} line most) =
      let made = most_is_made most in
      inr (inl (record { next = next; row = r; line = line; made = made.0; makes = made.1 }))
  none_or_makes (runs {t = t} target may) =
      elim (none_or_makes may) [
        | inl none ↦ inl none
        | inr made ↦ inr (inr (t, target, made))
      ]

-- What is found of a method by its shape, and of all methods one by one.
use Rattle.std.proofs.Common.{◌≡◌, ◌↔◌, ℕ, ◌+◌, ◌*◌, ◌<◌, Bool, List, length, get_or, set, take, Contains, Option, Some, sym, ap, ◌∙◌, subst, inl, inr, arith}
use Rattle.std.specs.Prelude.{IsTrue}
use Rattle.std.specs.List.Sorted.{IsStrictlyIncreasing}
use Rattle.std.proofs.lemmas.Bool.{cases_eq}
use Rattle.std.proofs.lemmas.List.{length-map, take_more, get_or-set_same, get_or-set_other}
use Rattle.std.proofs.lemmas.List.Elements.{Contains-push_cases}
use Rattle.std.proofs.lemmas.Option.{slice_get-get_or}
use Rattle.lists.specs.Members.{rising_pair}
use Rattle.loop_nest.specs.Nest.{NaturalLoop, headers_of}
use Rattle.section_check.specs.Least.{IsLeast}
use Rattle.bytecode_model.specs.Program.{Program}
use Rattle.method_flow.specs.Keeping.{BoundOf}
use Rattle.call_regions.specs.Calling.{IsTargetsFirst}
use Rattle.compact_walks.proofs.Loops.{headers_moved}
use Rattle.memory_rules.specs.Heap.{OfMethod, PlaceMakesObjects}
use Rattle.memory_bound.specs.declared.examining.MakingLoops.{MakingLoops}
use Rattle.memory_bound.specs.declared.found.Found.{Found}
use Rattle.memory_bound.specs.declared.shapes.Shape.{Shape}
use Rattle.memory_bound.specs.HeapLaws.{AreHeapLaws}
use Rattle.memory_bound.specs.Shapes.{node_of, headers_in, IsShapeOf}
use Rattle.memory_bound.specs.Found.{AreFound, HaveBoundsWithin, KnowMaking, LacksLoopBound, IsMemoryFoundOf, IsMostOr, found_at, unknown}
use Rattle.memory_bound.specs.Lengths.{IsFirstAmong}
use Rattle.memory_bound.specs.Loops.{header_in, AreMakingLoops, AreMakingBounds, AreLoopsFound, IsFirstWithout, bounds_of_loops}
use Rattle.memory_bound.proofs.Compacting.{is_moved, nest_out}
use Rattle.memory_bound.proofs.Findings.{makes_is, first_unlimited_is}
use Rattle.memory_bound.proofs.LoopsMade.{least_unbounded}

-- it is known which of the methods make objects that the method may call
pub know_making : (P : Program) (bounds lengths : BoundOf) (table : List Found) (m : ℕ) → AreFound P bounds lengths table m → KnowMaking P table m
know_making P bounds lengths table m found t may = (found t may).makes

-- ---- loops

pub loops_found : (bounds : BoundOf) (m : ℕ) (making : List Bool) (s : Shape) (l : MakingLoops) (hs : List ℕ) (bs : List (Option ℕ)) → hs ≡ headers_in s → bs ≡ bounds_of_loops bounds m s
    → IsFirstWithout making bs hs l.unbounded → AreMakingBounds making bs l.bounds.items → AreLoopsFound bounds m making s l
loops_found bounds m making s l hs bs headers are first made = record {
  unbounded = subst (λ (ks : List ℕ). IsFirstWithout making (bounds_of_loops bounds m s) ks l.unbounded) headers (subst (λ (os : List (Option ℕ)). IsFirstWithout making os hs l.unbounded) are first);
  bounds_are = subst (λ (os : List (Option ℕ)). AreMakingBounds making os l.bounds.items) are made;
}

module _ (laws : AreHeapLaws) (P : Program) (m : ℕ) (s : Shape) (of : IsShapeOf P m s) where
  -- headers rise by place
  headers_rise : (i k : ℕ) → i < k → k < length s.nest → header_in s i < header_in s k
  headers_rise i k less lt =
      let rising : IsStrictlyIncreasing (headers_in s) = subst (λ (hs : List ℕ). IsStrictlyIncreasing hs) (headers_moved (node_of s) s.nest) (nest_out of.graph s of.shape laws.nests (is_moved laws.moves P m s of)).rising in
      rising_pair (headers_in s) rising i k less (omega (arith, length-map (headers_of s.nest) (node_of s), length-map s.nest (λ (l : NaturalLoop). l.header)))

  -- the first loop without a bound
  pub first_unbounded_is : (bounds : BoundOf) (making : List Bool) → AreMakingLoops P m s making → (o : Option ℕ) → IsFirstWithout making (bounds_of_loops bounds m s) (headers_in s) o
      → IsLeast (LacksLoopBound P bounds m) o
  first_unbounded_is bounds making are o first = least_unbounded laws.moves laws.nests laws.one P m s of laws.instructions bounds making are headers_rise o first

  -- what is found of a method of this shape
  pub found_by_shape : (bounds lengths : BoundOf) (x : Found) → (IsTrue x.makes ↔ ((p : ℕ) × Contains s.nodes (2 * p) × PlaceMakesObjects P m p))
      → (making : List Bool) → AreMakingLoops P m s making → IsFirstWithout making (bounds_of_loops bounds m s) (headers_in s) x.unbounded
      → IsFirstAmong P lengths m s.nodes x.unlimited → (HaveBoundsWithin P bounds m → IsMostOr P bounds lengths (OfMethod m) x.heap) → IsMemoryFoundOf P bounds lengths m x
  found_by_shape bounds lengths x makes making are first among heap = record {
    makes = makes_is laws.one P m s of x.makes makes;
    unbounded = first_unbounded_is bounds making are x.unbounded first;
    unlimited = first_unlimited_is laws.one P m s of lengths x.unlimited among;
    heap = heap;
  }

-- ---- methods

-- of a method of the order it is found what all tell that it may call
pub found_more : (P : Program) (bounds lengths : BoundOf) (order : List ℕ) (table : List Found) (i m : ℕ) (x : Found) → IsTargetsFirst P P.boot order → i < length order → m ≡ get_or order i 0
    → m < length table → ((y : ℕ) → Contains (take i order) y → IsMemoryFoundOf P bounds lengths y (found_at table y)) → (AreFound P bounds lengths table m → IsMemoryFoundOf P bounds lengths m x)
    → (y : ℕ) → Contains (take (i + 1) order) y → IsMemoryFoundOf P bounds lengths y (found_at (set table m x) y)
found_more P bounds lengths order table i m x first lt at below before here y has =
    elim (cases_eq y m) [
      | inl same ↦
          let new : IsMemoryFoundOf P bounds lengths m (found_at (set table m x) m) = subst (λ (f : Found). IsMemoryFoundOf P bounds lengths m f) (sym (get_or-set_same table m x unknown below)) (here called) in
          subst (λ (z : ℕ). IsMemoryFoundOf P bounds lengths z (found_at (set table m x) z)) (sym same) new
      | inr other ↦ subst (λ (f : Found). IsMemoryFoundOf P bounds lengths y f) (sym (get_or-set_other table m y x unknown other)) (before y (front other))
    ]
  where
    called : AreFound P bounds lengths table m
    called t may = before t (first.first i m t (slice_get-get_or order i 0 lt ∙ ap Some (sym at)) may)

    front : (y ≡ m → ⊥) → Contains (take i order) y
    front other =
        elim (Contains-push_cases (take i order) (get_or order i 0) y (subst (λ (ms : List ℕ). Contains ms y) (take_more order i 0 lt) has)) [
          | inl there ↦ there
          | inr same ↦ absurd (other (sym same ∙ sym at))
        ]

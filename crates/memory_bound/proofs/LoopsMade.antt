-- Which loops make objects, and which of them lack bounds, by the lists of a shape.
use Rattle.std.proofs.Common.{◌≡◌, ◌↔◌, ℕ, ◌*◌, ◌<◌, Bool, List, length, map, get_or, Contains, Option, Some, None, sym, ap, ◌∙◌, subst, inl, inr, arith}
use Rattle.std.specs.Prelude.{IsTrue, slice_get, slice_index_or, false}
use Rattle.std.proofs.lemmas.List.{get_or-map, length-map, get_or_default}
use Rattle.std.proofs.lemmas.Option.{get_or_from_slice_get}
use Rattle.std.proofs.lemmas.Bool.{cases_order}
use Rattle.loop_nest.specs.Digraph.{Digraph}
use Rattle.loop_nest.specs.Walks.{IsHeader, IsMember}
use Rattle.loop_nest.specs.Nest.{NaturalLoop, headers_of, header_at, members_at}
use Rattle.loop_nest.proofs.Elements.{from_map}
use Rattle.section_check.specs.Least.{IsLeast}
use Rattle.bytecode_model.specs.Program.{Program}
use Rattle.method_flow.specs.Keeping.{BoundOf}
use Rattle.bound_rules.specs.Fitting.{header_bound}
use Rattle.bound_rules.specs.Laws.{GraphsAreOne, HeadersAreInstructions}
use Rattle.compact_walks.specs.Laws.{GraphsAreMoved, MovedIsNest}
use Rattle.compact_walks.specs.Moving.{IsMoved}
use Rattle.compact_walks.proofs.Loops.{header_of, members_of, headers_moved, members_below as loop_members}
use Rattle.memory_rules.specs.Heap.{LoopMakesObjects, PlaceMakesObjects}
use Rattle.memory_bound.specs.declared.shapes.Shape.{Shape}
use Rattle.memory_bound.specs.Shapes.{node_of, headers_in, IsShapeOf}
use Rattle.memory_bound.specs.Found.{BeginInstructions, LacksLoopBound}
use Rattle.memory_bound.specs.Loops.{header_in, AreMakingLoops, LacksAt, IsFirstWithout, bounds_of_loops}
use Rattle.memory_bound.proofs.Bounding.{header_bound_at}
use Rattle.memory_bound.proofs.Compacting.{own_nest, nest_out, header_out, members_out, is_moved}

-- the loop at a place of a list
pub loop_is : (ls : List NaturalLoop) (i : ℕ) (l : NaturalLoop) → slice_get ls i ≡ Some l → i < length ls → (header_at ls i ≡ l.header) × (members_at ls i ≡ l.members)
loop_is ls i l is lt =
    let same : get_or ls i l ≡ l = get_or_from_slice_get ls i l l is in
    (header_of ls i l lt ∙ ap (λ (k : NaturalLoop). k.header) same, members_of ls i l lt ∙ ap (λ (k : NaturalLoop). k.members) same)

module _ (moves : GraphsAreMoved) (nests : MovedIsNest) (one : GraphsAreOne) (P : Program) (m : ℕ) (s : Shape) (of : IsShapeOf P m s) where
  moved : IsMoved of.graph of.shape.compact (node_of s)
  moved = is_moved moves P m s of

  pub header_is : (i : ℕ) → i < length s.nest → header_in s i ≡ node_of s (header_at s.nest i)
  header_is i lt = get_or-map (node_of s) (headers_of s.nest) i 0 0 (omega (arith, length-map s.nest (λ (l : NaturalLoop). l.header)))

  -- a loop makes objects where one of its members does
  pub making_is : (making : List Bool)
      → ((i : ℕ) → i < length s.nest → IsTrue (slice_index_or making i false) ↔ ((p : ℕ) × Contains (map (node_of s) (members_at s.nest i)) (2 * p) × PlaceMakesObjects P m p))
      → AreMakingLoops P m s making
  making_is making tells g is_graph i lt =
      let same : of.graph ≡ g = one P m of.graph g of.is_graph is_graph in
      let both = tells i lt in (
        λ flagged.
            let r = both.0 flagged in
            let member = (members_out of.graph s of.shape nests moved i lt (2 * r.0)).0 r.1 in
            subst (λ (h : Digraph). LoopMakesObjects P m h (header_in s i)) same (r.0, subst (λ (x : ℕ). IsMember of.graph x (2 * r.0)) (sym (header_is i lt)) member, r.2),
        λ made.
            let made' : LoopMakesObjects P m of.graph (header_in s i) = subst (λ (h : Digraph). LoopMakesObjects P m h (header_in s i)) (sym same) made in
            let member : IsMember of.graph (node_of s (header_at s.nest i)) (2 * made'.0) = subst (λ (x : ℕ). IsMember of.graph x (2 * made'.0)) (header_is i lt) made'.1 in
            both.1 (made'.0, (members_out of.graph s of.shape nests moved i lt (2 * made'.0)).1 member, made'.2),
      )

  -- the members of a loop are nodes of the shape
  pub member_starts : BeginInstructions P m s.nodes → (i : ℕ) → i < length s.nest → BeginInstructions P m (map (node_of s) (members_at s.nest i))
  member_starts starts i lt p has =
      let r = from_map (node_of s) (members_at s.nest i) (2 * p) has in
      let below = loop_members of.graph of.shape.compact (node_of s) moved s.nest (own_nest of.graph s of.shape nests moved) i lt r.0 r.1 in
      let long = of.shape.long in
      let inside : r.0 < length s.nodes = omega arith in
      starts p (r.0, inside, get_or_default s.nodes r.0 (2 * p) 0 inside ∙ r.2)

  -- ---- loops without bounds

  module _ (instructions : HeadersAreInstructions) (bounds : BoundOf) (making : List Bool) (are : AreMakingLoops P m s making) where
    headers_long : length (headers_in s) ≡ length s.nest
    headers_long = length-map (headers_of s.nest) (node_of s) ∙ length-map s.nest (λ (l : NaturalLoop). l.header)

    -- the place of a header
    place_of_header : (i : ℕ) → i < length s.nest → (p : ℕ) × (header_in s i ≡ 2 * p)
    place_of_header i lt =
        let r = instructions P m of.graph (node_of s (header_at s.nest i)) (inl of.is_graph) (header_out of.graph s of.shape nests moved i lt) in
        (r.0, header_is i lt ∙ r.1)

    -- what is given for it
    bound_is : (i p : ℕ) → i < length s.nest → header_in s i ≡ 2 * p → slice_index_or (bounds_of_loops bounds m s) i None ≡ bounds m p
    bound_is i p lt at =
        get_or-map (header_bound bounds m) (headers_in s) i 0 None (omega (arith, headers_long)) ∙ ap (header_bound bounds m) at ∙ header_bound_at bounds m p

    -- a loop that makes objects and has no bound is one of the list
    listed : (p : ℕ) → LacksLoopBound P bounds m p → (i : ℕ) × (i < length s.nest) × (header_in s i ≡ 2 * p) × LacksAt making (bounds_of_loops bounds m s) i
    listed p lacks =
        let h = lacks.0 in
        let same : h.graph ≡ of.graph = one P m h.graph of.graph h.is_graph of.is_graph in
        let header : IsHeader of.graph (2 * p) = subst (λ (g : Digraph). IsHeader g (2 * p)) same h.header in
        let made : LoopMakesObjects P m of.graph (2 * p) = subst (λ (g : Digraph). LoopMakesObjects P m g (2 * p)) same h.makes in
        let in_moved : Contains (map (node_of s) (headers_of s.nest)) (2 * p) = subst (λ (hs : List ℕ). Contains hs (2 * p)) (headers_moved (node_of s) s.nest) ((nest_out of.graph s of.shape nests moved).complete (2 * p) header) in
        let i = in_moved.0 in
        let lt : in_moved.0 < length s.nest = (let below = in_moved.1 in omega (arith, headers_long)) in
        let at : header_in s in_moved.0 ≡ 2 * p = get_or_default (headers_in s) in_moved.0 0 (2 * p) in_moved.1 ∙ in_moved.2 in
        let flagged = (are of.graph of.is_graph in_moved.0 lt).1 (subst (λ (x : ℕ). LoopMakesObjects P m of.graph x) (sym at) made) in
        (in_moved.0, lt, at, (flagged, bound_is in_moved.0 p lt at ∙ lacks.1))

    -- and one of the list lacks it
    lacking : (i p : ℕ) → i < length s.nest → header_in s i ≡ 2 * p → LacksAt making (bounds_of_loops bounds m s) i → LacksLoopBound P bounds m p
    lacking i p lt at lacks =
        let header : IsHeader of.graph (2 * p) = subst (λ (x : ℕ). IsHeader of.graph x) (sym (header_is i lt) ∙ at) (header_out of.graph s of.shape nests moved i lt) in
        let made : LoopMakesObjects P m of.graph (2 * p) = subst (λ (x : ℕ). LoopMakesObjects P m of.graph x) at ((are of.graph of.is_graph i lt).0 lacks.0) in
        (record { graph = of.graph; is_graph = of.is_graph; header = header; makes = made }, sym (bound_is i p lt at) ∙ lacks.1)

    -- the first of the list is the least
    pub least_unbounded : ((i k : ℕ) → i < k → k < length s.nest → header_in s i < header_in s k) → (o : Option ℕ) → IsFirstWithout making (bounds_of_loops bounds m s) (headers_in s) o → IsLeast (LacksLoopBound P bounds m) o
    least_unbounded rising None none = λ p lacks. let r = listed p lacks in none r.0 (let lt = r.1 in omega (arith, headers_long)) r.3
    least_unbounded rising (Some p) first =
        let i = first.0 in
        let lt : first.0 < length s.nest = (let below = first.1 in omega (arith, headers_long)) in
        let h = place_of_header first.0 lt in
        let half : p ≡ h.0 = (let e = first.3 in let at = h.1 in omega arith) in (
          subst (λ (q : ℕ). LacksLoopBound P bounds m q) (sym half) (lacking first.0 h.0 lt h.1 first.2),
          λ q less lacks.
              let r = listed q lacks in
              let before : r.0 < first.0 = earlier r.0 first.0 r.1 lt (let a = r.2 in let b = h.1 in omega arith) in
              first.4 r.0 before r.3,
        )
      where
        earlier : (k i : ℕ) → k < length s.nest → i < length s.nest → header_in s k < header_in s i → k < i
        earlier k i lk li less =
            elim (cases_order k i) [
              | inl same ↦ let e = ap (header_in s) same in absurd (omega arith)
              | inr apart ↦
                  elim apart [
                    | inl lt ↦ lt
                    | inr gt ↦ let up = rising i k gt lk in absurd (omega arith)
                  ]
            ]

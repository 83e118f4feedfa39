-- The bounds of a method's loops, by what is found of their headers.
use Rattle.std.proofs.Common.{◌≡◌, ℕ, ◌<◌, List, length, map, get_or, Option, None, sym, ap, ◌∙◌, subst, arith}
use Rattle.std.specs.Prelude.{unwrap_or, Result, Ok, Err, IfOk, IfErr, IsSome}
use Rattle.std.proofs.lemmas.Simd.{map-map}
use Rattle.std.proofs.lemmas.List.{get_or-map, length-map}
use Rattle.std.proofs.lemmas.List.Elements.{Contains-get_or}
use Rattle.loop_nest.specs.Nest.{NaturalLoop, headers_of}
use Rattle.bound_texts.specs.Loops.Bounds.{LoopBound}
use Rattle.method_flow.specs.Flow.{Flow}
use Rattle.node_costs.specs.Costs.{bounds_of, bound_of_node}
use Rattle.bound_rules.specs.declared.faults.BoundRefusal.{BoundRefusal}
use Rattle.bound_rules.specs.declared.faults.BoundRefusal.TheVariants.{MissingBound, NoMemory}
use Rattle.bound_rules.specs.Fitting.{header_bound, header_bounds}
use Rattle.compact_walks.proofs.Loops.{no_loop}
use Rattle.bound_finder.specs.declared.shape.Shape.{Shape}
use Rattle.bound_finder.specs.Prepared.{AreAllSome, AreBounds, IsNoneOf, IsUnbounded, nest_of}

module _ (f : Flow) (lines : List LoopBound) (m : ℕ) (s : Shape) (hs : List ℕ) (found : List (Option ℕ)) (heads : hs ≡ headers_of (nest_of s)) (is : found ≡ map (bound_of_node f lines m) hs) where
  -- what is found of one loop
  found_at : (k : ℕ) (l : NaturalLoop) → k < length (nest_of s) → get_or found k None ≡ header_bound (bounds_of f lines) m (get_or (nest_of s) k l).header
  found_at k l lt =
      let many : length hs ≡ length (nest_of s) = ap length heads ∙ length-map (nest_of s) (λ (x : NaturalLoop). x.header) in
      let short : k < length hs = omega arith in
      let head : get_or hs k 0 ≡ (get_or (nest_of s) k l).header = ap (λ (us : List ℕ). get_or us k 0) heads ∙ get_or-map (λ (x : NaturalLoop). x.header) (nest_of s) k l 0 lt in
      ap (λ (os : List (Option ℕ)). get_or os k None) is ∙ get_or-map (bound_of_node f lines m) hs k 0 None short ∙ ap (bound_of_node f lines m) head

  long : length found ≡ length (nest_of s)
  long = ap length is ∙ length-map hs (bound_of_node f lines m) ∙ ap length heads ∙ length-map (nest_of s) (λ (x : NaturalLoop). x.header)

  bounds_are : (bounds : List ℕ) → AreAllSome found → bounds ≡ map (λ (o : Option ℕ). unwrap_or o 0) found → AreBounds (bounds_of f lines) m s bounds
  bounds_are bounds some are = record {
    are =
        are
        ∙ ap (map (λ (o : Option ℕ). unwrap_or o 0)) is
        ∙ map-map (λ (o : Option ℕ). unwrap_or o 0) (bound_of_node f lines m) hs
        ∙ ap (header_bounds (bounds_of f lines) m) heads;
    bounded = λ k l lt. subst (λ (o : Option ℕ). IsSome o) (found_at k l lt) (some k None (omega (arith, long)));
  }

  unbounded : (fault : BoundRefusal) → IsNoneOf m hs found fault → IsUnbounded (bounds_of f lines) m s fault
  unbounded (MissingBound x p) h =
      let r = h.1 in
      let below : r.0 < length (nest_of s) = (let lt = r.1 in omega (arith, long)) in
      let l = get_or (nest_of s) r.0 no_loop in
      (h.0, (l, Contains-get_or (nest_of s) r.0 no_loop below, sym (found_at r.0 no_loop below) ∙ r.2))
  unbounded NoMemory h = tt
  unbounded fault h = absurd h

  pub to_bounds : {V E : Type 0} (items : V → List ℕ) (r : Result V E) → IfOk r (λ v. AreAllSome found × (items v ≡ map (λ o. unwrap_or o 0) found)) → IfOk r (λ v. AreBounds (bounds_of f lines) m s (items v))
  to_bounds items (Err e) h = tt
  to_bounds items (Ok v) h = bounds_are (items v) h.0 h.1

  pub to_cause : {V : Type 0} (r : Result V BoundRefusal) → IfErr r (IsNoneOf m hs found) → IfErr r (IsUnbounded (bounds_of f lines) m s)
  to_cause (Err e) h = unbounded e h
  to_cause (Ok v) h = tt

pub looked_up : (f g : Flow) (lines more : List LoopBound) (m : ℕ) (hs us : List ℕ) (found : List (Option ℕ)) → g ≡ f → more ≡ lines → us ≡ hs → found ≡ map (bound_of_node g more m) us → found ≡ map (bound_of_node f lines m) hs
looked_up f g lines more m hs us found flow bounds same is =
    is
    ∙ ap (λ (h : Flow). map (bound_of_node h more m) us) flow
    ∙ ap (λ (ls : List LoopBound). map (bound_of_node f ls m) us) bounds
    ∙ ap (map (bound_of_node f lines m)) same

use Rattle.std.proofs.Common.{◌≡◌, ℕ, ◌+◌, List, [], ◌∷◌, ◌++◌, length, get_or, take, sym, ap, ◌∙◌, subst, inl, inr, arith, Vec, vec_len}
use Rattle.std.proofs.lemmas.List.{take_more, take_all, get_or-map, length-map, nil_from_length}
use Rattle.std.proofs.lemmas.Bool.{both_ways, eq-eqb, eqb-true}
use Rattle.call_regions.specs.Walking.{methods_of}
use Rattle.call_regions.specs.declared.walk.Visit.{Visit}
use Rattle.call_regions.proofs.Lists.{IsFrom, from_more, from_other, from_all}
use Rattle.call_regions.proofs.walk.cycle_from.Goals as goal
use Rattle.call_regions.proofs.walk.cycle_from.Goals.{then-visit-t+in_ok-push, then-visit-t-via-then-visit-t, then-visit-t-via-else-visit-t+then-not-is_empty, else-visit-t+else-not-is_empty}

pub loop-visit-preserved : goal.loop-visit-preserved
loop-visit-preserved c =
    let visits = c.args.visits.now in
    let ms = methods_of visits in
    let t = c.args.t in
    let i = c.loop-visit.visit-index in
    let lt = c.loop-visit-test.true in
    let none : Visit = record { method = 0; call = 0; target = 0 } in
    let y = get_or ms i 0 in
    let is : y ≡ (get_or visits i none).method = get_or-map (λ (v : Visit). v.method) visits i none 0 lt in
    let within = length-map visits (λ (v : Visit). v.method) in
    let more : take (i + 1) ms ≡ take i ms ++ y ∷ [] = take_more ms i 0 (omega arith) in
    let long = c.loop-visit.methods.ok in
    let T : List ℕ → List ℕ → Type 0 = λ xs ys. IsFrom t xs ys in
    let A : List ℕ → Type 0 = λ xs. T xs c.if-visit-t.methods.items in
    let B : List ℕ → Type 0 = λ ys. T (take i ms ++ y ∷ []) ys in
    subst A (sym more)
    (elim c.if-visit-t.branch [
      | then-visit-t+in_ok-push w ↦
          let items = ap (λ (v : Vec ℕ _). v.items) w.methods-is ∙ w.in_ok-push.ensures.items ∙ ap (λ (m : ℕ). c.loop-visit.methods.items ++ m ∷ []) (sym is) in
          subst B (sym items)
          (from_more t (take i ms) c.loop-visit.methods.items y c.loop-visit.invariant
          (elim w.then-visit-t.branch [
            | then-visit-t-via-then-visit-t v ↦ inl (is ∙ v.if-visit-t.true)
            | then-visit-t-via-else-visit-t+then-not-is_empty v ↦ inr (λ none. let empty = ap length none in let z : vec_len c.loop-visit.methods ≡ 0 = omega (arith, long.0) in both_ways v.is_empty.result v.if-not-is_empty.true (v.is_empty.ensures ∙ eq-eqb (vec_len c.loop-visit.methods) 0 z))
          ]))
      | else-visit-t+else-not-is_empty w ↦
          let items = ap (λ (v : Vec ℕ _). v.items) w.methods-is in
          subst B (sym items) (from_other t (take i ms) c.loop-visit.methods.items y c.loop-visit.invariant (λ e. w.if-visit-t.false (sym is ∙ e)) (nil_from_length c.loop-visit.methods.items (let z = eqb-true (vec_len c.loop-visit.methods) 0 (sym w.is_empty.ensures ∙ w.if-not-is_empty.false) in omega (arith, long.0))))
    ])

pub returns : goal.returns
returns c =
    let visits = c.args.visits.now in
    let ms = methods_of visits in
    let end = c.loop-visit-test.false in
    let within = length-map visits (λ (v : Visit). v.method) in
    let P : List ℕ → Type 0 = λ xs. IsFrom c.args.t xs c.loop-visit.methods.items in
    from_all c.args.t ms c.loop-visit.methods.items (subst P (take_all c.loop-visit.visit-index ms (omega arith)) c.loop-visit.invariant) c.requires

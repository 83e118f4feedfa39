use Rattle.std.proofs.Common.{ℕ, ◌<◌, ◌≤◌, List, [], ◌∷◌, ◌++◌, take, length, get_or, Vec, Global, refl, sym, subst, arith}
use Rattle.std.proofs.Math.ListN.{set}
use Rattle.std.proofs.lemmas.List.{take_more, length-map}
use Rattle.flow_table.specs.Receivers.{lists_of, IsPut}
use Rattle.flow_table.proofs.Receiving.{put_past, put_one}
use Rattle.flow_table.proofs.receivers.put_below.Goals as goal
use Rattle.flow_table.proofs.receivers.put_below.Goals.{then-index-len+in_ok-push, else-index-len}

pub loop-upper-preserved : goal.loop-upper-preserved
loop-upper-preserved c =
    let i = c.loop-upper.upper-index in
    let us = c.args.uppers.now in
    let u = get_or us i 0 in
    let old = lists_of c.args.below.now.items in
    let h = c.loop-upper.invariant in
    let vs = c.loop-upper.below.items in
    let more = take_more us i 0 c.loop-upper-test.true in
    subst (λ (xs : List ℕ). IsPut c.args.class xs old (lists_of c.if-index-len.below.items)) (sym more)
    (elim c.if-index-len.branch [
      | then-index-len+in_ok-push w ↦
          subst (λ (v : Vec (Vec ℕ Global) Global). IsPut c.args.class (take i us ++ u ∷ []) old (lists_of v.items)) (sym w.below-is)
          (let inside : u < length vs = (let lt = w.if-index-len.true in let len = c.len.ensures in omega arith) in
          put_one c.args.class u (take i us) old vs (set vs u w.push.new.self) w.push.new.self w.index_mut.result.now h inside w.index_mut.ensures.value w.in_ok-push.ensures.items refl)
      | else-index-len w ↦
          let past : length (lists_of c.loop-upper.below.items) ≤ u = (let ge = w.if-index-len.false in let len = c.len.ensures in let long = length-map vs (λ (v : Vec ℕ Global). v.items) in omega arith) in
          subst (λ (v : Vec (Vec ℕ Global) Global). IsPut c.args.class (take i us ++ u ∷ []) old (lists_of v.items)) (sym w.below-is) (put_past c.args.class u (take i us) old (lists_of c.loop-upper.below.items) h past)
    ])

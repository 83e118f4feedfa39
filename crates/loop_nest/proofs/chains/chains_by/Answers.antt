use Rattle.std.proofs.Common.{ℕ, ◌+◌, List, [], ◌∷◌, map, Vec, sym, ap, ◌∙◌, subst}
use Rattle.std.specs.declared.alloc.Global.{Global}
use Rattle.std.proofs.lemmas.List.{map-append}
use Rattle.loop_nest.specs.Chains.{AreBlocksBelow}
use Rattle.loop_nest.proofs.Linked.{blocks_more, blocks_same}
use Rattle.loop_nest.proofs.chains.chains_by.Goals as goal
use Rattle.loop_nest.proofs.chains.chains_by.Goals.{then-not-is_later+in_ok-chain+in_ok-push, else-not-is_later}

pub loop-u-preserved : goal.loop-u-preserved
loop-u-preserved c =
    let g = c.args.g.now in
    let u = c.loop-u.u in
    let old = c.loop-u.chains.items in
    let P : List (Vec ℕ Global) → Type 0 = λ vs. AreBlocksBelow g (u + 1) (map (λ (v : Vec ℕ Global). v.items) vs) in
    elim c.if-not-is_later.branch [
      | then-not-is_later+in_ok-chain+in_ok-push w ↦
          let Q : List (List ℕ) → Type 0 = λ bs. AreBlocksBelow g (u + 1) bs in
          let ns = w.in_ok-chain.field-0 in
          subst P (sym (ap (λ v. v.items) w.chains-is ∙ w.in_ok-push.ensures.items))
          (subst Q (sym (map-append (λ (v : Vec ℕ Global). v.items) old (ns ∷ [])))
          (blocks_more g u (map (λ (v : Vec ℕ Global). v.items) old) ns.items w.in_ok-chain.ensures.block w.in_ok-chain.ensures.first c.loop-u.invariant))
      | else-not-is_later w ↦
          subst P (sym (ap (λ v. v.items) w.chains-is)) (blocks_same g u (map (λ (v : Vec ℕ Global). v.items) old) (c.is_later.ensures.0 w.if-not-is_later.false) c.loop-u.invariant)
    ]

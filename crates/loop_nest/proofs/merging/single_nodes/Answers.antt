use Rattle.std.proofs.Common.{◌≡◌, ℕ, ◌+◌, List, [], ◌∷◌, ◌++◌, suc, sym, ap, ◌∙◌, subst, arith}
use Rattle.std.specs.List.{range_with_len}
use Rattle.loop_nest.specs.Entered.{IsClassList}
use Rattle.loop_nest.proofs.ClassLists.{range_more, single_class_list}
use Rattle.loop_nest.proofs.merging.single_nodes.Goals as goal

pub loop-u-preserved : goal.loop-u-preserved
loop-u-preserved c =
    let u = c.loop-u.u in
    let more : range_with_len 0 u ++ u ∷ [] ≡ range_with_len 0 (u + 1) =
    ap (λ (k : ℕ). range_with_len 0 u ++ k ∷ []) (let e : u ≡ 0 + u = omega arith in e) ∙ sym (range_more 0 u)
    ∙ ap (λ (k : ℕ). range_with_len 0 k) (let e : suc u ≡ u + 1 = omega arith in e) in
    c.in_ok-push.ensures.items ∙ ap (λ ls. ls ++ u ∷ []) c.loop-u.invariant ∙ more

pub returns-clause-classes : goal.returns-clause-classes
returns-clause-classes c =
    let P : List ℕ → Type 0 = λ ls. IsClassList c.args.g.now ls in
    let n : c.loop-u.u ≡ c.args.g.now.nodes = let e = c.nodes-u-end.ensures.nodes in omega arith in
    subst P (ap (λ (k : ℕ). range_with_len 0 k) (sym n) ∙ sym c.loop-u.invariant) (single_class_list c.args.g.now)

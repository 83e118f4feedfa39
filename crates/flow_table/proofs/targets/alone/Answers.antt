use Rattle.std.proofs.Common.{ℕ, List, [], ◌∷◌, ◌++◌, map, sym, ap, ◌∙◌, arith}
use Rattle.std.specs.List.{range_with_len}
use Rattle.std.proofs.lemmas.List.FromFn.{map-range_with_len_more}
use Rattle.flow_table.proofs.targets.alone.Goals as goal

pub loop-method-preserved : goal.loop-method-preserved
loop-method-preserved c =
    let n = c.loop-method.method in
    let f : ℕ → List ℕ = λ t. t ∷ [] in
    c.in_ok-push.ensures.items
    ∙ (ap (λ (ls : List (List ℕ)). ls ++ c.new.result ∷ []) c.loop-method.invariant
    ∙ (ap (λ (ts : List ℕ). map f (range_with_len 0 n) ++ ts ∷ []) (c.new.ensures ∙ c.in_ok-list.ensures.items) ∙ sym (map-range_with_len_more f 0 n n (omega arith))))

use Rattle.std.proofs.Common.{◌++◌, ◌∷◌, [], List, None, false, sym, ap, ◌∙◌, arith}
use Rattle.std.proofs.lemmas.List.FromFn.{map-range_with_len_more}
use Rattle.image_layout.specs.declared.uses.Use.{Use}
use Rattle.image_layout.specs.Uses.{use_of}
use Rattle.image_layout.proofs.uses.unused.Goals as goal

pub loop-index-preserved : goal.loop-index-preserved
loop-index-preserved c =
    λ cs class k.
    let n = c.loop-index._index in
    let nothing : Use = record { named = false; taken = None } in
    c.in_ok-push.ensures.items
    ∙ (ap (λ (us : List Use). us ++ nothing ∷ []) (c.loop-index.invariant cs class k) ∙ sym (map-range_with_len_more (use_of cs class k []) 0 n n (omega arith)))

use Rattle.std.proofs.Common.{◌+◌, ◌++◌, drop, ap, sym, ◌∙◌, arith}
use Rattle.method_cache.specs.Ring.{rotated, parts}
use Rattle.method_cache.proofs.Rotation.{length-rotated, put_more}
use Rattle.method_cache.proofs.Parts.{length-parts, parts_more}
use Rattle.method_cache.proofs.blocks.put_tags.Goals as goal

pub loop-part-preserved : goal.loop-part-preserved
loop-part-preserved c =
    let l = c.loop-part in
    let old = rotated c.args.at c.args.tags.now in
    let long = length-rotated c.args.at c.args.tags.now (omega arith) in
    rw c.wrapped-block.ensures (put_more c.args.at l.tags (parts c.args.method c.args.words l.part) old l.part _ (omega arith) (omega arith) (length-parts _ _ _) (omega arith) l.invariant
    ∙ ap (λ ts. ts ++ drop (l.part + 1) old) (sym (parts_more c.args.method c.args.words l.part)))

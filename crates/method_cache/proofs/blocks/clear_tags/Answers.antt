use Rattle.std.proofs.Common.{◌+◌, ◌++◌, drop, replicate, None, ap, sym, ◌∙◌, arith}
use Rattle.std.proofs.lemmas.List.{length-replicate}
use Rattle.std.proofs.lemmas.Grind.{replicate_next}
use Rattle.method_cache.specs.Ring.{rotated}
use Rattle.method_cache.proofs.Rotation.{length-rotated, put_more}
use Rattle.method_cache.proofs.blocks.clear_tags.Goals as goal

pub loop-i-preserved : goal.loop-i-preserved
loop-i-preserved c =
    let l = c.loop-i in
    let old = rotated c.args.at c.args.tags.now in
    let long = length-rotated c.args.at c.args.tags.now (omega arith) in
    rw c.wrapped-block.ensures (put_more c.args.at l.tags (replicate l.i None) old l.i None (omega arith) (omega arith) (length-replicate l.i None) (omega arith) l.invariant
    ∙ ap (λ ts. ts ++ drop (l.i + 1) old) (sym (replicate_next l.i None)))

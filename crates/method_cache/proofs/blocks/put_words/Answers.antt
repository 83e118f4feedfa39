use Rattle.std.proofs.Common.{◌+◌, ◌++◌, drop, take, ap, sym, ◌∙◌, length-take-le, arith}
use Rattle.std.proofs.lemmas.List.{take_more}
use Rattle.method_cache.specs.Ring.{rotated}
use Rattle.method_cache.proofs.Rotation.{length-rotated, put_more}
use Rattle.method_cache.proofs.blocks.put_words.Goals as goal

pub loop-i-preserved : goal.loop-i-preserved
loop-i-preserved c =
    let l = c.loop-i in
    let old = rotated c.args.at c.args.ring.now in
    let long = length-rotated c.args.at c.args.ring.now (omega arith) in
    rw c.wrapped-place.ensures (put_more c.args.at l.ring (take l.i c.args.words.now) old l.i _ (omega arith) (omega arith) (length-take-le l.i c.args.words.now (omega arith)) (omega arith) l.invariant
    ∙ ap (λ ws. ws ++ drop (l.i + 1) old) (sym (take_more c.args.words.now l.i 0 (omega arith))))

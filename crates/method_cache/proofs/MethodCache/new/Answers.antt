use Rattle.std.proofs.Common.{None, arith}
use Rattle.method_cache.proofs.Fresh.{all_free, cache_of-fresh, IsRing-fresh}
use Rattle.method_cache.proofs.MethodCache.new.Goals as goal

pub returns : goal.returns
returns c =
    let free = all_free c.args.blocks _ None c.new-tags.result.items c.resize.new.self.items c.in_ok-resize.ensures.items c.new-tags.ensures.items c.new-tags.ensures.len in
    cache_of-fresh c.args.blocks c.args.block_words c.resize.new.self c.in_ok-vec.field-0 free

pub invariant_of-result : goal.invariant_of-result
invariant_of-result c =
    let free = all_free c.args.blocks _ None c.new-tags.result.items c.resize.new.self.items c.in_ok-resize.ensures.items c.new-tags.ensures.items c.new-tags.ensures.len in
    let words = c.in_ok-vec.field-0 in
    IsRing-fresh c.args.blocks c.args.block_words c.resize.new.self words free c.requires.some_blocks c.requires.most_blocks c.requires.some_words c.requires.most_words (omega (arith, c.in_ok-vec.ensures.len, words.ok.0))

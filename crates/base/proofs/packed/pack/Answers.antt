use Rattle.std.proofs.Common.{◌<◌, ℕ, subst}
use Rattle.base.proofs.Packs.{pack-begin, pack-more}
use Rattle.base.proofs.packed.pack.Goals as goal

pub loop-k-init : goal.loop-k-init
loop-k-init c = pack-begin c.args.bytes.now c.new-words.result.items c.new-words.ensures.items

pub loop-k-preserved : goal.loop-k-preserved
loop-k-preserved c =
    let P : ℕ → Type 0 = λ n. c.loop-k.k < n in
    pack-more c.args.bytes.now c.loop-k.words.items c.push.new.self.items c.loop-k.k c.word_at.result (subst P c.div_ceil-k-end.ensures c.loop-k-test.true) c.word_at.ensures c.in_ok-push.ensures.items c.loop-k.invariant

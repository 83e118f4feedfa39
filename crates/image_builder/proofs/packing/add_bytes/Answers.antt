use Rattle.std.proofs.Common.{◌<◌, ℕ, subst, arith}
use Rattle.image_builder.proofs.PackLemmas.{pack_none, pack_more, pack_all}
use Rattle.image_builder.proofs.packing.add_bytes.Goals as goal

pub loop-k-init : goal.loop-k-init
loop-k-init c = pack_none c.args.bytes.now c.args.words.now.items

pub loop-k-preserved : goal.loop-k-preserved
loop-k-preserved c =
    let P : ℕ → Type 0 = λ n. c.loop-k.k < n in
    pack_more c.args.bytes.now c.args.words.now.items c.loop-k.words.items c.push.new.self.items c.loop-k.k c.word_at.result (subst P c.div_ceil-k-end.ensures c.loop-k-test.true) c.word_at.ensures c.in_ok-push.ensures.items c.loop-k.invariant

pub returns : goal.returns
returns c =
    let test = c.loop-k-test.false in
    let end = c.loop-k.auto.k-end in
    let count = c.div_ceil-k-end.ensures in
    pack_all c.args.bytes.now c.args.words.now.items c.loop-k.words.items c.loop-k.k (omega (arith, test, end, count)) c.loop-k.invariant

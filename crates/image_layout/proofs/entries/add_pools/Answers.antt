use Rattle.std.proofs.Common.{◌<◌, ℕ, length, arith}
use Rattle.std.specs.List.{enumerate_from}
use Rattle.std.proofs.lemmas.List.FromFn.{length-enumerate_from}
use Rattle.class_pool.specs.declared.class.ClassFile.{ClassFile}
use Rattle.image_words.specs.Layout.{outline_of}
use Rattle.image_words.specs.Pools.{pool_image}
use Rattle.image_builder.proofs.ListLemmas.{flat_more, flat_whole, enumerated_first}
use Rattle.image_builder.proofs.ListLemmas.{get_below}
use Rattle.image_layout.proofs.entries.add_pools.Goals as goal

pub loop-class-preserved : goal.loop-class-preserved
loop-class-preserved c =
    let cs = c.args.program.now in
    let n = c.loop-class.class in
    let test = c.loop-class-test.true in
    let count = c.class_count-class-end.ensures in
    let lt : n < length cs = omega (arith, test, count) in
    let k = get_below cs n lt in
    flat_more (λ (e : ℕ × ClassFile). pool_image cs (outline_of cs) e.0 e.1) (enumerate_from 0 cs) n (n, k.0) c.args.words.now.items c.loop-class.words.items c.add_pool.new.words.items (enumerated_first cs n k.0 k.1) c.loop-class.invariant
    (c.in_ok-add_pool.ensures k.0 k.1)

pub returns : goal.returns
returns c =
    let cs = c.args.program.now in
    let test = c.loop-class-test.false in
    let end = c.loop-class.auto.class-end in
    let count = c.class_count-class-end.ensures in
    let long = length-enumerate_from 0 cs in
    flat_whole (λ (e : ℕ × ClassFile). pool_image cs (outline_of cs) e.0 e.1) (enumerate_from 0 cs) c.loop-class.class c.args.words.now.items c.loop-class.words.items (omega (arith, test, end, count, long)) c.loop-class.invariant

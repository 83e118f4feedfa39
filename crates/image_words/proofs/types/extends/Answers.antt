use Rattle.std.proofs.Common.{length, ap, arith}
use Rattle.image_words.proofs.ObjectLemmas.{core_count}
use Rattle.image_words.proofs.BaseLemmas.{past_is}
use Rattle.image_words.proofs.types.extends.Goals as goal

pub returns-else-class-class_count : goal.returns-else-class-class_count
returns-else-class-class_count c =
    let cs = c.args.classes.now in
    let many = core_count cs c.requires in
    let count = c.class_count.ensures in
    let listed = ap length c.classes.ensures in
    let test = c.if-class-class_count.false in
    past_is cs c.args.class c.args.above (omega (arith, many)) (omega (arith, count, listed, test)) c.if-above-eq-OBJECT.false

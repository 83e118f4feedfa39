use Rattle.std.proofs.Common.{◌≡◌, ◌<◌, length, get_or, ap, arith}
use Rattle.std.proofs.lemmas.Option.{get_or_from_slice_get}
use Rattle.std.proofs.lemmas.List.Sums.{sum_by_more}
use Rattle.program_tables.specs.Numbers.{instance_fields}
use Rattle.program_sites.specs.Made.Making.{words_at}
use Rattle.program_sites.proofs.made.objects.object_words.Goals as goal

pub loop-index-preserved : goal.loop-index-preserved
loop-index-preserved c =
    let cs = c.args.program.now in
    let fs = instance_fields c.args.program.now c.args.class in
    let i = c.loop-index.index in
    let x = c.instance_field.result in
    let lt : c.loop-index.index < length (instance_fields c.args.program.now c.args.class) = (let e = c.instance_field_count-index-end.ensures in let t = c.loop-index-test.true in omega arith) in
    let more = sum_by_more (words_at cs) fs i x lt in
    let at : get_or fs i x ≡ x = get_or_from_slice_get fs i x x c.instance_field.ensures in
    let same = ap (words_at cs) at in
    let field = c.field_words-words.ensures.words in
    let few = c.field_words-words.ensures.few in
    let are = c.loop-index.invariant.0 in
    let small = c.loop-index.invariant.1 in
    (omega arith, omega arith)

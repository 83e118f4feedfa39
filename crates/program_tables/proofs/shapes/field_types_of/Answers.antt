use Rattle.std.proofs.Common.{◌<◌, List, length, slice_get, sym, ap, ◌∙◌, arith}
use Rattle.class_pool.specs.declared.class.ClassFile.{ClassFile}
use Rattle.std.proofs.lemmas.Option.{get_or_from_slice_get}
use Rattle.program_tables.specs.Meanings.{types_seen, field_types_in}
use Rattle.program_tables.proofs.ShapeLemmas.{next_seen}
use Rattle.program_tables.proofs.shapes.field_types_of.Goals as goal

pub loop-number-preserved : goal.loop-number-preserved
loop-number-preserved c =
    let cs = c.args.texts.now in
    let i = c.loop-number.number in
    let k = c.class.result.now in
    let same = c.classes-classes.ensures in
    let long = ap length same in
    let lt : i < length cs = omega (arith, long) in
    let there = ap (λ (xs : List ClassFile). slice_get xs i) (sym same) ∙ c.class.ensures in
    next_seen types_seen (field_types_in cs) cs i k c.loop-number.made.items c.push.new.self.items c.in_ok-field_types_in.field-0 c.loop-number.invariant c.in_ok-push.ensures.items lt
    (get_or_from_slice_get cs i k k there) c.in_ok-field_types_in.ensures

use Rattle.std.proofs.Common.{ℕ, ◌<◌, ◌++◌, length, replicate, append_assoc, ◌∙◌, arith}
use Rattle.std.specs.List.{flat_map}
use Rattle.std.proofs.lemmas.List.FromFn.{length-range_with_len}
use Rattle.image_words.specs.Layout.{classes_of, outline_of}
use Rattle.image_words.specs.Slots.{interface_methods}
use Rattle.image_words.specs.Regions.{interface_image}
use Rattle.image_builder.proofs.ListLemmas.{flat_more, flat_whole, range_first}
use Rattle.image_layout.proofs.tables.add_interfaces.Goals as goal

pub loop-class-preserved : goal.loop-class-preserved
loop-class-preserved c =
    let cs = c.args.program.now in
    let class = c.loop-class.class in
    let zeros = c.args.words.now.items ++ replicate (length (interface_methods cs)) 0 in
    let test = c.loop-class-test.true in
    let count = c.class_count-class-end.ensures in
    let lt : class < length cs = omega (arith, test, count) in
    flat_more (interface_image cs (outline_of cs)) (classes_of cs) class class zeros c.loop-class.words.items c.add_interface_table.new.words.items (range_first (length cs) class lt) c.loop-class.invariant
    c.in_ok-add_interface_table.ensures

pub returns : goal.returns
returns c =
    let cs = c.args.program.now in
    let before = c.args.words.now.items in
    let zeros = replicate {A = ℕ} (length (interface_methods cs)) 0 in
    let test = c.loop-class-test.false in
    let end = c.loop-class.auto.class-end in
    let count = c.class_count-class-end.ensures in
    let long = length-range_with_len 0 (length cs) in
    flat_whole (interface_image cs (outline_of cs)) (classes_of cs) c.loop-class.class (before ++ zeros) c.loop-class.words.items (omega (arith, test, end, count, long)) c.loop-class.invariant
    ∙ append_assoc before zeros (flat_map (interface_image cs (outline_of cs)) (classes_of cs))

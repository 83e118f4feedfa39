use Rattle.std.proofs.Common.{◌<◌, length, ap, arith}
use Rattle.std.specs.List.{enumerate_from}
use Rattle.std.proofs.lemmas.List.FromFn.{length-enumerate_from}
use Rattle.std.proofs.lemmas.List.{length-map}
use Rattle.program_tables.specs.Numbers.{types_of}
use Rattle.program_tables.specs.Tables.{kind_seen}
use Rattle.image_words.specs.Layout.{outline_of}
use Rattle.image_words.specs.Regions.{type_image}
use Rattle.image_builder.proofs.ListLemmas.{flat_more, flat_whole, enumerated_first}
use Rattle.image_builder.proofs.ListLemmas.{get_below}
use Rattle.image_words.proofs.types.add_types.Goals as goal

pub loop-number-preserved : goal.loop-number-preserved
loop-number-preserved c =
    let cs = c.args.classes.now in
    let n = c.loop-number.number in
    let test = c.loop-number-test.true in
    let count = c.count-number-end.ensures in
    let seen = length-map c.args.types.now kind_seen in
    let long = ap length c.requires.types in
    let lt : n < length (types_of cs) = omega (arith, test, count, seen, long) in
    let k = get_below (types_of cs) n lt in
    flat_more (type_image cs (outline_of cs)) (enumerate_from 0 (types_of cs)) n (n, k.0) c.args.words.now.items c.loop-number.words.items c.add_type.new.words.items (enumerated_first (types_of cs) n k.0 k.1) c.loop-number.invariant
    (c.in_ok-add_type.ensures k.0 k.1)

pub returns : goal.returns
returns c =
    let cs = c.args.classes.now in
    let test = c.loop-number-test.false in
    let end = c.loop-number.auto.number-end in
    let count = c.count-number-end.ensures in
    let seen = length-map c.args.types.now kind_seen in
    let all = ap length c.requires.types in
    let long = length-enumerate_from 0 (types_of cs) in
    flat_whole (type_image cs (outline_of cs)) (enumerate_from 0 (types_of cs)) c.loop-number.number c.args.words.now.items c.loop-number.words.items (omega (arith, test, end, count, seen, all, long)) c.loop-number.invariant

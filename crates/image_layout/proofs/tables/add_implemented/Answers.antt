use Rattle.std.proofs.Common.{◌++◌, ◌∷◌, [], ℕ, List, map, ap, ◌∙◌, arith}
use Rattle.class_lookup.specs.Lookup.{Place}
use Rattle.image_words.specs.Layout.{outline_of}
use Rattle.image_words.specs.Regions.{implemented_place}
use Rattle.image_builder.proofs.ListLemmas.{map_more, take_whole}
use Rattle.image_layout.proofs.RowLemmas.{got}
use Rattle.image_layout.proofs.tables.add_implemented.Goals as goal

pub implemented_place-place-requires-clause-selected : goal.implemented_place-place-requires-clause-selected
implemented_place-place-requires-clause-selected c =
    let i = c.loop-i.i in
    let m = c.index-methods-i.result in
    let s = c.index-row-i.result in
    let test = c.loop-i-test.true in
    let long = c.requires.row.long in
    c.requires.row.each i m s (got c.args.methods.now i m (omega (arith, test)) c.index-methods-i.is) (got c.args.row.now i s (omega (arith, test, long)) c.index-row-i.is)

pub loop-i-preserved : goal.loop-i-preserved
loop-i-preserved c =
    let cs = c.args.program.now in
    let methods = c.args.methods.now in
    let i = c.loop-i.i in
    let m = c.index-methods-i.result in
    let old = c.loop-i.words.items in
    let test = c.loop-i-test.true in
    map_more (implemented_place cs (outline_of cs) c.args.class) methods i m c.args.words.now.items old c.push.new.self.items (got methods i m (omega (arith, test)) c.index-methods-i.is) c.loop-i.invariant
    (c.in_ok-push.ensures.items ∙ ap (λ (n : ℕ). old ++ n ∷ []) c.implemented_place-place.ensures)

pub returns : goal.returns
returns c =
    let cs = c.args.program.now in
    let methods = c.args.methods.now in
    let test = c.loop-i-test.false in
    let end = c.loop-i.auto.i-end in
    c.loop-i.invariant ∙ ap (λ (ms : List Place). c.args.words.now.items ++ map (implemented_place cs (outline_of cs) c.args.class) ms) (take_whole methods c.loop-i.i (omega (arith, test, end)))

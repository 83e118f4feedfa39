use Rattle.std.proofs.Common.{◌++◌, ◌∷◌, [], ℕ, List, map, ap, ◌∙◌, arith}
use Rattle.class_lookup.specs.Lookup.{Place}
use Rattle.program_tables.specs.Numbers.{fields_by_number}
use Rattle.image_words.specs.Layout.{outline_of}
use Rattle.image_words.specs.Pools.{static_word}
use Rattle.image_builder.proofs.ListLemmas.{mapped_more, take_whole}
use Rattle.image_layout.proofs.layout.field_places.Goals as goal

pub loop-number-preserved : goal.loop-number-preserved
loop-number-preserved c =
    let cs = c.args.program.now in
    let old = c.loop-number.places.items in
    mapped_more (static_word cs (outline_of cs)) (fields_by_number cs) c.loop-number.number c.field-field.result old c.push.new.self.items c.field-field.ensures c.loop-number.invariant
    (c.in_ok-push.ensures.items ∙ ap (λ (n : ℕ). old ++ n ∷ []) c.static_word.ensures)

pub returns : goal.returns
returns c =
    let cs = c.args.program.now in
    let test = c.loop-number-test.false in
    let end = c.loop-number.auto.number-end in
    let count = c.field_count-number-end.ensures in
    c.loop-number.invariant ∙ ap (λ (fs : List Place). map (static_word cs (outline_of cs)) fs) (take_whole (fields_by_number cs) c.loop-number.number (omega (arith, test, end, count)))

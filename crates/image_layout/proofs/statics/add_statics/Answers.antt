use Rattle.image_facts.specs.Words.{words_of}
use Rattle.program_tables.specs.Numbers.{static_fields}
use Rattle.program_tables.specs.Resolved.{first_value}
use Rattle.image_words.specs.Layout.{outline_of}
use Rattle.image_words.specs.Regions.{first_place}
use Rattle.image_builder.proofs.ListLemmas.{flat_kept}
use Rattle.image_layout.proofs.statics.add_statics.Goals as goal

pub loop-index-preserved : goal.loop-index-preserved
loop-index-preserved c =
    let cs = c.args.program.now in
    flat_kept (words_of (first_place cs (outline_of cs))) (first_value cs) (static_fields cs) c.loop-index.index c.static_field-place.result c.args.words.now.items c.loop-index.words.items c.add_first_value.new.words.items c.static_field-place.ensures
    c.loop-index.invariant c.in_ok-add_first_value.ensures

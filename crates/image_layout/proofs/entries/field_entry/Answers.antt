use Rattle.std.proofs.Common.{Option, sym, ap, ◌∙◌}
use Rattle.std.specs.Option.{option_map_or}
use Rattle.class_lookup.specs.Lookup.{Place}
use Rattle.image_words.specs.Layout.{outline_of}
use Rattle.image_words.specs.Pools.{field_words, no_words}
use Rattle.image_layout.proofs.EntryLemmas.{field_there}
use Rattle.image_layout.proofs.entries.field_entry.Goals as goal

pub returns-in-Some : goal.returns-in-Some
returns-in-Some c = λ k at.
    let cs = c.args.program.now in
    let there = field_there cs k c.args.owner c.args.member c.field_found.result _ (c.field_found.ensures k at) c.in-Some.is in
    c.field_words.ensures ∙ ap (λ (o : Option Place). option_map_or (field_words cs (outline_of cs)) o no_words) (sym there)

pub returns-in-None : goal.returns-in-None
returns-in-None c = λ k at.
    let cs = c.args.program.now in
    let there = field_there cs k c.args.owner c.args.member c.field_found.result _ (c.field_found.ensures k at) c.in-None.is in
    ap (λ (o : Option Place). option_map_or (field_words cs (outline_of cs)) o no_words) (sym there)

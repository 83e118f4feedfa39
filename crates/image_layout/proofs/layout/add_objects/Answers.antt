use Rattle.image_words.specs.Layout.{outline_of}
use Rattle.image_words.specs.Regions.{raised_region, strings_region}
use Rattle.image_layout.proofs.LayoutLemmas.{last_joined}
use Rattle.image_layout.proofs.layout.add_objects.Goals as goal

pub returns : goal.returns
returns c =
    let cs = c.args.program.now in
    last_joined c.add_strings.result c.args.words.now.items c.add_raised.new.words.items c.add_strings.new.words.items (strings_region cs (outline_of cs)) (raised_region cs (outline_of cs))
    (c.in_ok-add_raised.ensures cs c.is_resolved.ensures c.requires) (c.add_strings.ensures cs c.is_resolved.ensures c.strings.ensures c.requires)

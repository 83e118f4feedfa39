use Rattle.image_words.specs.Layout.{outline_of}
use Rattle.image_words.specs.Regions.{header_region, lists_region}
use Rattle.image_layout.proofs.LayoutLemmas.{last_joined}
use Rattle.image_layout.proofs.front.add_front.Goals as goal

pub returns : goal.returns
returns c =
    let cs = c.args.program.now in
    last_joined c.add_lists.result c.args.words.now.items c.add_header.new.words.items c.add_lists.new.words.items (lists_region cs (outline_of cs)) (header_region cs (outline_of cs)) c.in_ok-add_header.ensures c.add_lists.ensures

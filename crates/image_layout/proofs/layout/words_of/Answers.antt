use Rattle.image_layout.proofs.LayoutLemmas.{all_joined}
use Rattle.image_layout.proofs.layout.words_of.Goals as goal

pub returns : goal.returns
returns c =
    let cs = c.args.program.now in
    all_joined cs c.new-words.result.items c.add_front.new.words.items c.add_statics.new.words.items c.add_middle.new.words.items c.add_objects.new.words.items
    c.new-words.ensures.items c.in_ok-add_front.ensures c.in_ok-add_statics.ensures c.in_ok-add_middle.ensures c.in_ok-add_objects.ensures

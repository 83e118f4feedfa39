use Rattle.std.proofs.Common.{map, ap, ◌∙◌}
use Rattle.image_words.specs.Layout.{pool_words, pools_place}
use Rattle.image_layout.proofs.LayoutLemmas.{run_made}
use Rattle.image_layout.proofs.outline.pool_places.Goals as goal

pub returns : goal.returns
returns c =
    let cs = c.args.program.now in
    let sizes = c.deref.ensures.value ∙ (c.in_ok-sizes.ensures ∙ ap (map pool_words) (c.classes.ensures ∙ c.hierarchy.ensures)) in
    run_made c.run_from.result c.args.start (pools_place cs) c.deref.result.now (map pool_words cs) c.requires sizes c.run_from.ensures

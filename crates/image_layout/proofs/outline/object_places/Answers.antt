use Rattle.std.proofs.Common.{◌+◌, map, ◌∙◌}
use Rattle.bytecode_model.specs.Sizes.{object_words}
use Rattle.image_words.specs.Layout.{methods_place, methods_size}
use Rattle.program_tables.specs.Resolved.{resolved}
use Rattle.image_layout.proofs.LayoutLemmas.{run_made}
use Rattle.image_layout.proofs.outline.object_places.Goals as goal

pub returns : goal.returns
returns c =
    let cs = c.args.program.now in
    let P = resolved cs in
    let sizes = c.deref.ensures.value ∙ c.in_ok-sizes.ensures cs c.is_resolved.ensures c.strings.ensures c.requires.instances in
    run_made c.run_from.result c.args.start (methods_place cs + methods_size cs) c.deref.result.now (map (object_words P) P.first_objects) c.requires.start sizes c.run_from.ensures

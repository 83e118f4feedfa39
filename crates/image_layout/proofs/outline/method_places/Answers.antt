use Rattle.std.proofs.Common.{map, ◌∙◌}
use Rattle.image_words.specs.Layout.{method_size, methods_place}
use Rattle.program_tables.specs.Resolved.{resolved}
use Rattle.image_layout.proofs.LayoutLemmas.{run_made}
use Rattle.image_layout.proofs.outline.method_places.Goals as goal

pub returns : goal.returns
returns c =
    let cs = c.args.program.now in
    run_made c.run_from.result c.args.start (methods_place cs) c.deref.result.now (map method_size (resolved cs).methods) c.requires (c.deref.ensures.value ∙ c.in_ok-sizes.ensures) c.run_from.ensures

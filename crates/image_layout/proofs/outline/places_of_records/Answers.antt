use Rattle.image_words.specs.Layout.{pool_words, method_size, pools_place, methods_place}
use Rattle.image_builder.proofs.RunLemmas.{run_end}
use Rattle.program_tables.specs.Resolved.{resolved}
use Rattle.image_layout.proofs.outline.places_of_records.Goals as goal

pub method_places-requires : goal.method_places-requires
method_places-requires c =
    let cs = c.args.program.now in
    run_end pool_words cs (pools_place cs) c.in_ok-pools.pools c.in_ok-pools.ensures

pub object_places-requires-clause-start : goal.object_places-requires-clause-start
object_places-requires-clause-start c =
    let cs = c.args.program.now in
    run_end method_size (resolved cs).methods (methods_place cs) c.in_ok-methods.methods c.in_ok-methods.ensures

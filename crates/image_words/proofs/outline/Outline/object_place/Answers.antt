use Rattle.std.proofs.Common.{◌+◌}
use Rattle.bytecode_model.specs.Sizes.{object_words}
use Rattle.program_tables.specs.Resolved.{resolved}
use Rattle.image_words.specs.Layout.{methods_place, methods_size}
use Rattle.image_builder.proofs.RunLemmas.{run_place}
use Rattle.image_words.proofs.PlaceLemmas.{object_at}
use Rattle.image_words.proofs.outline.Outline.object_place.Goals as goal

pub returns : goal.returns
returns c =
    λ cs o.
    object_at cs c.args.object c.at.result
    (run_place (object_words (resolved cs)) (resolved cs).first_objects (methods_place cs + methods_size cs) c.args.self.now.objects c.args.object c.at.result o.objects c.at.ensures)

use Rattle.std.proofs.Common.{◌+◌, length, arith}
use Rattle.image_words.specs.Slots.{interface_methods}
use Rattle.image_words.specs.Layout.{interface_words, classes_of, interfaces_place}
use Rattle.image_builder.proofs.RunLemmas.{run_place}
use Rattle.image_words.proofs.outline.Outline.interface_place.Goals as goal

pub returns : goal.returns
returns c =
    λ cs o.
    let place = run_place (interface_words cs) (classes_of cs) (interfaces_place cs + length (interface_methods cs)) c.args.self.now.interface_tables c.args.class c.at.result o.interface_tables c.at.ensures in
    omega (arith, place)

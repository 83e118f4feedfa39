use Rattle.program_tables.specs.Resolved.{resolved}
use Rattle.image_words.specs.Layout.{method_size, methods_place}
use Rattle.image_builder.proofs.RunLemmas.{run_place}
use Rattle.image_words.proofs.outline.Outline.method_place.Goals as goal

pub returns : goal.returns
returns c = λ cs o. run_place method_size ((resolved cs).methods) (methods_place cs) c.args.self.now.methods c.args.method c.at.result o.methods c.at.ensures

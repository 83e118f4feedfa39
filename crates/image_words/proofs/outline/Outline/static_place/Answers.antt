use Rattle.image_facts.specs.Words.{declared_words}
use Rattle.program_tables.specs.Resolved.{resolved}
use Rattle.image_words.specs.Layout.{front_size}
use Rattle.image_builder.proofs.RunLemmas.{run_place}
use Rattle.image_words.proofs.PlaceLemmas.{static_at}
use Rattle.image_words.proofs.outline.Outline.static_place.Goals as goal

pub returns : goal.returns
returns c = λ cs o. static_at cs c.args.index c.at.result (run_place declared_words (resolved cs).statics front_size c.args.self.now.statics c.args.index c.at.result o.statics c.at.ensures)

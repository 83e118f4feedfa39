use Rattle.image_words.specs.Layout.{pool_words, pools_place}
use Rattle.image_builder.proofs.RunLemmas.{run_place}
use Rattle.image_words.proofs.outline.Outline.pool_place.Goals as goal

pub returns : goal.returns
returns c = λ cs o. run_place pool_words (cs) (pools_place cs) c.args.self.now.pools c.args.class c.at.result o.pools c.at.ensures

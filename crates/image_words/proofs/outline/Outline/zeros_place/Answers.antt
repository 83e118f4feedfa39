use Rattle.image_words.specs.Layout.{table_words, classes_of, tables_place}
use Rattle.image_builder.proofs.RunLemmas.{run_end}
use Rattle.image_words.proofs.outline.Outline.zeros_place.Goals as goal

pub returns : goal.returns
returns c = λ cs o. run_end (table_words cs) (classes_of cs) (tables_place cs) c.args.self.now.tables o.tables

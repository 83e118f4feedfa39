use Rattle.image_words.specs.Layout.{table_words, classes_of, tables_place}
use Rattle.image_builder.proofs.RunLemmas.{run_place}
use Rattle.image_words.proofs.outline.Outline.table_place.Goals as goal

pub returns : goal.returns
returns c = λ cs o. run_place (table_words cs) (classes_of cs) (tables_place cs) c.args.self.now.tables c.args.class c.at.result o.tables c.at.ensures

use Rattle.image_facts.specs.Words.{declared_words}
use Rattle.image_words.specs.Layout.{front_size, classes_of, table_words, tables_place}
use Rattle.image_builder.proofs.RunLemmas.{run_end}
use Rattle.program_tables.specs.Resolved.{resolved}
use Rattle.image_layout.proofs.outline.places_of_tables.Goals as goal

pub table_places-requires-clause-types : goal.table_places-requires-clause-types
table_places-requires-clause-types c = run_end declared_words (resolved c.args.program.now).statics front_size c.in_ok-statics.statics c.in_ok-statics.ensures

pub table_places-requires-clause-words : goal.table_places-requires-clause-words
table_places-requires-clause-words c = c.type_words-type_words.ensures c.args.program.now c.kinds.ensures

pub interface_table_places-requires-clause-zeros : goal.interface_table_places-requires-clause-zeros
interface_table_places-requires-clause-zeros c =
    let cs = c.args.program.now in
    run_end (table_words cs) (classes_of cs) (tables_place cs) c.in_ok-tables.tables c.in_ok-tables.ensures

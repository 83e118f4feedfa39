use Rattle.image_laws.proofs.Entries.{entries_named, ints_said, strings_said, classes_said}
use Rattle.image_laws.proofs.FieldWords.{instance_fields_said, static_fields_said}
use Rattle.image_laws.proofs.laws.entries_have_meanings.Goals as goal

pub returns-clause-named : goal.returns-clause-named
returns-clause-named c = entries_named

pub returns-clause-numbers : goal.returns-clause-numbers
returns-clause-numbers c = ints_said

pub returns-clause-strings : goal.returns-clause-strings
returns-clause-strings c = strings_said c.packed_has_words.ensures

pub returns-clause-classes : goal.returns-clause-classes
returns-clause-classes c = classes_said

pub returns-clause-instance_fields : goal.returns-clause-instance_fields
returns-clause-instance_fields c = instance_fields_said c.fields_come_after_those_above.ensures

pub returns-clause-static_fields : goal.returns-clause-static_fields
returns-clause-static_fields c = static_fields_said

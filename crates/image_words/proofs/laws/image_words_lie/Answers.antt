use Rattle.image_words.proofs.Image.{front, image_words}
use Rattle.image_words.proofs.Records.{methods, types, entries}
use Rattle.image_words.proofs.laws.image_words_lie.Goals as goal

pub returns-clause-words : goal.returns-clause-words
returns-clause-words c = image_words c.packed_has_words.ensures

pub returns-clause-front : goal.returns-clause-front
returns-clause-front c = front c.packed_has_words.ensures

pub returns-clause-methods : goal.returns-clause-methods
returns-clause-methods c = methods c.packed_has_words.ensures

pub returns-clause-types : goal.returns-clause-types
returns-clause-types c = types

pub returns-clause-entries : goal.returns-clause-entries
returns-clause-entries c = entries

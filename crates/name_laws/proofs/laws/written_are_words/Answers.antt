use Rattle.name_laws.proofs.Escapes.{name_word}
use Rattle.name_laws.proofs.laws.written_are_words.Goals as goal

pub returns : goal.returns
returns c = name_word

use Rattle.base.proofs.Packs.{length-words_of_bytes}
use Rattle.base.proofs.laws.packed_has_words.Goals as goal

pub returns : goal.returns
returns c = length-words_of_bytes

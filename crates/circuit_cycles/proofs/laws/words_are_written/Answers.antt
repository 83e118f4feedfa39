use Rattle.circuit_cycles.proofs.Writes.{word_written}
use Rattle.circuit_cycles.proofs.laws.words_are_written.Goals as goal

pub returns : goal.returns
returns c = λ shape ring tags next cache newest older done is valid split has below. word_written shape ring tags cache newest older is valid split next done has below

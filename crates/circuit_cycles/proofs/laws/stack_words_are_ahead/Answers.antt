use Rattle.circuit_cycles.proofs.Ahead.{below_ahead, loaded_ahead}
use Rattle.circuit_cycles.proofs.laws.stack_words_are_ahead.Goals as goal

pub returns : goal.returns
returns c = λ shape given core h. (below_ahead shape given core h, loaded_ahead shape given core h)

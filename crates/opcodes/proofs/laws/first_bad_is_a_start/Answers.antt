use Rattle.opcodes.proofs.StartLemmas.{IsFirstBad-first_bad}
use Rattle.opcodes.proofs.laws.first_bad_is_a_start.Goals as goal

pub returns : goal.returns
returns c = IsFirstBad-first_bad

use Rattle.bytecode_typing.proofs.Formed.{formed}
use Rattle.bytecode_typing.proofs.fitting_states_are_well_formed.Goals as goal

pub returns : goal.returns
returns c = λ P types limits typed s h. formed P types limits typed s h

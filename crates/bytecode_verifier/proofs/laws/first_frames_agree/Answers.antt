use Rattle.bytecode_verifier.proofs.AlikeLemmas.{begin_alike}
use Rattle.bytecode_verifier.proofs.laws.first_frames_agree.Goals as goal

pub returns : goal.returns
returns c = begin_alike c.equals_are_compared.ensures c.field_descriptors.ensures c.method_descriptors.ensures

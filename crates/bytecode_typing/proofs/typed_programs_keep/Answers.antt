use Rattle.bytecode_typing.proofs.Keeping.{keeps}
use Rattle.bytecode_typing.proofs.typed_programs_keep.Goals as goal

pub returns : goal.returns
returns c = λ P types limits law typed s g h answer ia. keeps P types limits law typed s g h answer ia

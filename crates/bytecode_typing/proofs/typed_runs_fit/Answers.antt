use Rattle.bytecode_typing.proofs.Keeping.{runs_fit}
use Rattle.bytecode_typing.proofs.typed_runs_fit.Goals as goal

pub returns : goal.returns
returns c = λ P types limits law typed input answers s h n. runs_fit P types limits law typed input answers s h n

use Rattle.certificates.proofs.Examples.{worked}
use Rattle.certificates.proofs.laws.worked_texts.Goals as goal

pub returns : goal.returns
returns c = worked

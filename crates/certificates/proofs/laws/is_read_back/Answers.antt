use Rattle.certificates.proofs.Texts.{read_back}
use Rattle.certificates.proofs.laws.is_read_back.Goals as goal

pub returns : goal.returns
returns c = read_back

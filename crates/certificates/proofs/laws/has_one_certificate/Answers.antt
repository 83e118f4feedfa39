use Rattle.certificates.proofs.LinesRead.{one_certificate}
use Rattle.certificates.proofs.laws.has_one_certificate.Goals as goal

pub returns : goal.returns
returns c = one_certificate

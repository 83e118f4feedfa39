use Rattle.priced_cert.proofs.OneCertificate as law
use Rattle.priced_cert.proofs.laws.has_one_priced_certificate.Goals as goal

pub returns : goal.returns
returns c = law.has_one

use Rattle.priced_cert.proofs.OneCertificate as law
use Rattle.priced_cert.proofs.laws.versions_are_apart.Goals as goal

pub returns : goal.returns
returns c = law.are_apart

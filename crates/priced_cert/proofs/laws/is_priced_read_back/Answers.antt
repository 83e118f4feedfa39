use Rattle.priced_cert.proofs.TextLemmas as law
use Rattle.priced_cert.proofs.laws.is_priced_read_back.Goals as goal

pub returns : goal.returns
returns c = law.read_back

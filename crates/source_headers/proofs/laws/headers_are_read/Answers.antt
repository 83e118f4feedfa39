use Rattle.source_headers.proofs.ReadLemmas as law
use Rattle.source_headers.proofs.laws.headers_are_read.Goals as goal

pub returns : goal.returns
returns c = law.headers_read

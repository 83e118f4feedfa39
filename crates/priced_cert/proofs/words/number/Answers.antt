use Rattle.certificates.proofs.NumberLemmas.{number_finds}
use Rattle.priced_cert.proofs.words.number.Goals as goal

pub returns : goal.returns
returns c = number_finds c.args.text.now c.read_u64.result c.read_u64.ensures

use Rattle.certificates.proofs.NumberLemmas.{number_finds}
use Rattle.certificates.proofs.line_reader.number.number.Goals as goal

pub returns : goal.returns
returns c = number_finds c.args.text.now c.read_u64.result c.read_u64.ensures

use Rattle.certificates.proofs.LineLemmas.{says_one_thing}
use Rattle.certificates.proofs.lines.laws.says_one.Goals as goal

pub returns : goal.returns
returns c = says_one_thing

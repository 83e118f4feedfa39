use Rattle.image_laws.proofs.Codes.{codes, methods_said, apart}
use Rattle.image_laws.proofs.laws.methods_are_said.Goals as goal

pub returns-clause-codes : goal.returns-clause-codes
returns-clause-codes c = codes c.methods_have_code.ensures

pub returns-clause-records : goal.returns-clause-records
returns-clause-records c = methods_said c.image_words_lie.ensures.methods

pub returns-clause-apart : goal.returns-clause-apart
returns-clause-apart c = apart

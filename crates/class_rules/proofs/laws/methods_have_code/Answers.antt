use Rattle.class_rules.proofs.FoundLaws as found
use Rattle.class_rules.proofs.laws.methods_have_code.Goals as goal

pub returns : goal.returns
returns c = found.methods_have_code

use Rattle.class_rules.proofs.FoundLaws as found
use Rattle.class_rules.proofs.laws.fields_have_constants.Goals as goal

pub returns : goal.returns
returns c = found.fields_have_constants

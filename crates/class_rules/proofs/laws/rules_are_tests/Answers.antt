use Rattle.class_rules.proofs.AllLaws.{rules_decide}
use Rattle.class_rules.proofs.laws.rules_are_tests.Goals as goal

pub returns : goal.returns
returns c = rules_decide c.field_descriptors.ensures c.method_descriptors.ensures

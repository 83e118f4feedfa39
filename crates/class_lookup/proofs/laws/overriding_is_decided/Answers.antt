use Rattle.class_lookup.proofs.SelectionLaws.{overriding_law, overriding_needs_law}
use Rattle.class_lookup.proofs.laws.overriding_is_decided.Goals as goal

pub returns : goal.returns
returns c = record { decided = overriding_law; needs = overriding_needs_law }

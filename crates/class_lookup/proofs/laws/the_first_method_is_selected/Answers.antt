use Rattle.class_lookup.proofs.SelectionLaws.{selection_law}
use Rattle.class_lookup.proofs.laws.the_first_method_is_selected.Goals as goal

pub returns : goal.returns
returns c = selection_law

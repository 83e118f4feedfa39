use Rattle.jopizer.proofs.RefusedLemmas.{not_refused}
use Rattle.jopizer.proofs.laws.linked_files_are_not_refused.Goals as goal

pub returns : goal.returns
returns c = not_refused c.one_class.ensures

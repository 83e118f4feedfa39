use Rattle.bound_finder.proofs.ShowText.{found_in_text}
use Rattle.bound_finder.proofs.show_laws.found_in_text.Goals as goal

pub returns : goal.returns
returns c = found_in_text c.renumbered_stays_accepted.ensures.form

use Rattle.netlist.proofs.Ranges.{words_fit}
use Rattle.netlist.proofs.laws.words_stay_in_range.Goals as goal

pub returns : goal.returns
returns c = words_fit

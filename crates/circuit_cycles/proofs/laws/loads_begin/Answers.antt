use Rattle.circuit_cycles.proofs.LoadBegins.{load_begins}
use Rattle.circuit_cycles.proofs.laws.loads_begin.Goals as goal

pub returns : goal.returns
returns c = λ shape ring tags next cache m words is valid has absent some fits. load_begins shape ring tags next cache m words is valid has absent some fits

use Rattle.base.specs.Growing.{Grew-trans}
use Rattle.base.proofs.history.additions_join.Goals as goal

pub returns : goal.returns
returns g c = Grew-trans

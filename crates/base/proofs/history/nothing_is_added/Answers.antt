use Rattle.base.specs.Growing.{Grew-refl}
use Rattle.base.proofs.history.nothing_is_added.Goals as goal

pub returns : goal.returns
returns g c = Grew-refl

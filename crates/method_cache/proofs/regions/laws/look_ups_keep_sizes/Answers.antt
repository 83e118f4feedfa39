use Rattle.method_cache.proofs.RegionsLemmas.Following.{after-sizes}
use Rattle.method_cache.proofs.regions.laws.look_ups_keep_sizes.Goals as goal

pub returns : goal.returns
returns c = λ words look_ups cache. after-sizes words look_ups cache

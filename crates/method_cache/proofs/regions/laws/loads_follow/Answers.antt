use Rattle.method_cache.proofs.RegionsLemmas.Following.{loads-append}
use Rattle.method_cache.proofs.regions.laws.loads_follow.Goals as goal

pub returns : goal.returns
returns c = λ words xs ys cache. loads-append words xs ys cache

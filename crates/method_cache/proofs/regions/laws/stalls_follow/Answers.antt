use Rattle.method_cache.proofs.RegionsLemmas.Following.{stalls-append}
use Rattle.method_cache.proofs.regions.laws.stalls_follow.Goals as goal

pub returns : goal.returns
returns c = λ words r xs ys cache. stalls-append words r xs ys cache

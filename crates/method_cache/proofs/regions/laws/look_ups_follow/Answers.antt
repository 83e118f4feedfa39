use Rattle.method_cache.proofs.RegionsLemmas.Following.{after-append}
use Rattle.method_cache.proofs.regions.laws.look_ups_follow.Goals as goal

pub returns : goal.returns
returns c = λ words xs ys cache. after-append words xs ys cache

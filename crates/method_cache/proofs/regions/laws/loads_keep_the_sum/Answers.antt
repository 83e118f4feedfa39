use Rattle.std.proofs.Common.{[], length, Contains}
use Rattle.std.proofs.lemmas.List.Elements.{All-contains}
use Rattle.method_cache.specs.Regions.Region.{load_stall}
use Rattle.method_cache.specs.Regions.LookUps.{loads}
use Rattle.method_cache.proofs.RegionsLemmas.Parts.{sum_of_part}
use Rattle.method_cache.proofs.RegionsLemmas.Loading.{fresh_loads, newest_none}
use Rattle.method_cache.proofs.regions.laws.loads_keep_the_sum.Goals as goal

pub returns : goal.returns
returns c = λ words members look_ups cache r fits asked.
    let once = fresh_loads words members look_ups [] cache fits asked (newest_none words members cache) in
    sum_of_part (λ m. load_stall r (length (words m))) (loads words look_ups cache) members once.distinct (λ z has. All-contains (Contains members) (loads words look_ups cache) z once.within has)

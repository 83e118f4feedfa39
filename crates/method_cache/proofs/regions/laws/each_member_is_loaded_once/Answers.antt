use Rattle.std.proofs.Common.{[]}
use Rattle.method_cache.proofs.RegionsLemmas.Loading.{fresh_loads, newest_none}
use Rattle.method_cache.proofs.regions.laws.each_member_is_loaded_once.Goals as goal

pub returns : goal.returns
returns c = λ words members look_ups cache fits asked.
    let r = fresh_loads words members look_ups [] cache fits asked (newest_none words members cache) in
    (r.distinct, r.within)

use Rattle.section_index.specs.Crossing as sets
use Rattle.section_check.specs.Least.{IsLeast}
use Rattle.section_index.specs.Numbering.{Crosses}
use Rattle.section_index.proofs.Crossed.{least_crossing}
use Rattle.section_index.proofs.Ranks.{ok_then, no_loop}
use Rattle.section_index.proofs.holders.crossing.Goals as goal

pub returns : goal.returns
returns c =
    let ls = c.args.loops.now in
    let ss = c.args.family.now.sets in
    ok_then c.first_crossing.result (λ o. sets.IsLeast (sets.CrossesAnother ss) o) (λ o. IsLeast (Crosses ls) o) (λ o h. least_crossing ls c.args.numbers.now ss c.requires.numbers c.requires.placed no_loop o h) c.first_crossing.ensures

use Rattle.loop_finder.proofs.Entered.{beginnings_are_one}
use Rattle.loop_finder.proofs.laws.beginnings_are_one.Goals as goal

pub returns : goal.returns
returns c =
    beginnings_are_one c.walks_lead_on.ensures.comes_by c.headers_dominate_members.ensures c.last_writes_exist.ensures c.last_writes_are_reached.ensures.write
    c.pushed_are_one.ensures.ints

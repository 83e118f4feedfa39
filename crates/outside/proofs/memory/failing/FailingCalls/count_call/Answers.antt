use Rattle.std.proofs.Common.{◌≡◌, ◌+◌, get_or, arith}
use Rattle.std.proofs.lemmas.Grind.{common_steps}
use Rattle.outside.proofs.memory.failing.FailingCalls.count_call.Goals as goal

pub returns-in-Some-clause-later : goal.returns-in-Some-clause-later
returns-in-Some-clause-later c =
    let found : get_or c.self.inside.list.items (c.self.inside.failed + c.in-Some.at) 0 ≡ c.self.inside.calls = grind (arith, common_steps) in
    rw (← c.self.view_is) (rw found at c.replace_first.ensures.later)

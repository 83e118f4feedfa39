use Rattle.bound_finder.specs.Ending.IsPastLimit.{number as beyond_number}
use Rattle.bound_finder.proofs.ending.bound_of.Goals as goal

pub returns-in-None-narrowed-clause-none : goal.returns-in-None-narrowed-clause-none
returns-in-None-narrowed-clause-none c = beyond_number c.in-Some.n c.in-Some.is c.in-None-narrowed.ensures.none

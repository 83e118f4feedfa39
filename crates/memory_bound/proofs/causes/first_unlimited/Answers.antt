use Rattle.std.proofs.Common.{◌≡◌, None}
use Rattle.memory_bound.specs.Found.{found_at}
use Rattle.memory_bound.proofs.Ordered.{all_taken}
use Rattle.memory_bound.proofs.Answering.{length_here}
use Rattle.memory_bound.proofs.causes.first_unlimited.Goals as goal

pub returns-in-Some-clause-cause : goal.returns-in-Some-clause-cause
returns-in-Some-clause-cause c =
    length_here c.args.methods.now c.loop-m.m-index c.requires.rising c.loop-m-test.true c.args.table.now c.in-Some.place c.requires.bounds c.loop-m.invariant c.in-Some.is

pub returns-clause-ok : goal.returns-clause-ok
returns-clause-ok c = all_taken (λ x. (found_at c.args.table.now x).unlimited ≡ None) c.args.methods.now c.loop-m.m-index c.loop-m-test.false c.loop-m.invariant

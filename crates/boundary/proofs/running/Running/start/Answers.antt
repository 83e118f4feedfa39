use Rattle.std.proofs.Common.{lit<}
use Rattle.boundary.proofs.Starting.{size_of, can_start, linked_begins, linked_step}
use Rattle.boundary.proofs.running.Running.start.Goals as goal

pub new-requires : goal.new-requires
new-requires g c = (lit< tt, (size_of g.row.N c.args.words.now c.args.methods.now c.args.config c.requires.program, can_start c.linked_runs_begin.ensures g.row.N c.args.words.now c.args.methods.now c.args.config c.requires.program))

pub invariant_of-result : goal.invariant_of-result
invariant_of-result g c = linked_step c.linked_runs_begin.ensures g.row.N c.args.words.now c.args.methods.now c.args.config c.in-Ok.machine c.requires.program c.in-Ok.ensures

pub returns-in-Ok-clause-begins : goal.returns-in-Ok-clause-begins
returns-in-Ok-clause-begins g c = linked_begins c.linked_runs_begin.ensures g.row.N c.args.words.now c.args.config c.in-Ok.machine c.in-Ok.ensures

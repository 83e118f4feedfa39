use Rattle.boundary.specs.Setting.{bare_setting}
use Rattle.boundary.specs.Meaning.{methods_of}
use Rattle.boundary.proofs.Starting.{begins_at, step_begins}
use Rattle.boundary.proofs.running.Running.start_bare.Goals as goal

pub invariant_of-result : goal.invariant_of-result
invariant_of-result g c =
    let image = c.args.image.now in
    let begins = c.bare_runs_begin.ensures g.row.N image c.args.config c.requires.size c.of_bare-methods.ensures.image c.requires.room in
    step_begins c.bare_images_are_programs.ensures g.row.N image c.args.config (methods_of c.of_bare-methods.result) c.in-Ok.machine c.of_bare-methods.ensures.image c.of_bare-methods.ensures.methods c.in-Ok.ensures (begins_at (bare_setting image g.row.N c.args.config.memory) _ c.in-Ok.machine c.in-Ok.ensures begins)

pub returns-in-Ok-clause-begins : goal.returns-in-Ok-clause-begins
returns-in-Ok-clause-begins g c =
    let image = c.args.image.now in
    begins_at (bare_setting image g.row.N c.args.config.memory) _ c.in-Ok.machine c.in-Ok.ensures (c.bare_runs_begin.ensures g.row.N image c.args.config c.requires.size c.of_bare-methods.ensures.image c.requires.room)

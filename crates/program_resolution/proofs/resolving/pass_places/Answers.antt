use Rattle.std.proofs.Common.{sym, ◌∙◌}
use Rattle.program_resolution.proofs.LinkingLemmas.{early_refuses}
use Rattle.program_resolution.proofs.resolving.pass_places.Goals as goal

pub returns-in-Some-clause-refused : goal.returns-in-Some-clause-refused
returns-in-Some-clause-refused c declares = early_refuses c.args.classes.now c.args.files declares c.in-Some.refusal (sym c.in-Some.is ∙ c.in_ok-refusal.ensures.first)

use Rattle.jop_cli.proofs.NeedsLaw as law
use Rattle.jop_cli.proofs.NeedsInRuns.{needs_are_shown, needs_suffice_in_runs}
use Rattle.jop_cli.proofs.OneNeed as one
use Rattle.jop_cli.proofs.laws.needs_suffice.Goals as goal

pub returns-clause-suffice : goal.returns-clause-suffice
returns-clause-suffice c = law.needs_suffice c.stack_need_suffices.ensures c.heap_need_suffices.ensures

pub returns-clause-shown : goal.returns-clause-shown
returns-clause-shown c = needs_are_shown

pub returns-clause-in_runs : goal.returns-clause-in_runs
returns-clause-in_runs c =
    needs_suffice_in_runs c.verified_programs_are_told.ensures (law.needs_suffice c.stack_need_suffices.ensures c.heap_need_suffices.ensures)

pub returns-clause-one : goal.returns-clause-one
returns-clause-one c = one.needs_are_one c.gives_one.ensures c.lengths_give_one.ensures c.needs_are_one.ensures.stack c.needs_are_one.ensures.heap

pub returns-clause-not_refused : goal.returns-clause-not_refused
returns-clause-not_refused c =
    one.needs_are_not_refused c.gives_one.ensures c.lengths_give_one.ensures c.read_is_not_refused.ensures c.read_lengths_are_not_refused.ensures c.need_causes_are_one.ensures.none

pub returns-clause-causes : goal.returns-clause-causes
returns-clause-causes c = one.need_causes_are_told c.gives_one.ensures c.lengths_give_one.ensures c.need_causes_are_one.ensures.one

use Rattle.jop_cli.proofs.BoundingLaw as law
use Rattle.jop_cli.proofs.CausesLaw.{causes_are_answered}
use Rattle.jop_cli.proofs.HeldLines.{held_lines_are_one}
use Rattle.jop_cli.proofs.laws.bounding_is_exact.Goals as goal

pub returns-clause-complete : goal.returns-clause-complete
returns-clause-complete c = law.bounding_is_complete c.gives_one.ensures c.read_is_not_refused.ensures c.one_linked.ensures c.linked_images_are_read.ensures

pub returns-clause-caused : goal.returns-clause-caused
returns-clause-caused c = law.bound_refusals_are_caused c.gives_one.ensures c.read_is_not_refused.ensures c.one_linked.ensures c.linked_images_are_read.ensures

pub returns-clause-answered : goal.returns-clause-answered
returns-clause-answered c =
    causes_are_answered c.gives_one.ensures c.read_is_not_refused.ensures c.one_linked.ensures c.linked_images_are_read.ensures c.refusals_are_one.ensures.one c.refusals_are_one.ensures.none
    c.own_costs_exist.ensures c.written_names_are_one.ensures.one c.resolved_codes_are_short.ensures

pub returns-clause-names : goal.returns-clause-names
returns-clause-names c = c.written_names_are_one.ensures.one

pub returns-clause-lines : goal.returns-clause-lines
returns-clause-lines c = held_lines_are_one c.written_names_are_one.ensures.one

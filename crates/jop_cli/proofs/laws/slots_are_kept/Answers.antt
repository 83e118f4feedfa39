use Rattle.jop_cli.proofs.PlanningLaw.{slots_are_kept}
use Rattle.jop_cli.proofs.PlansKept.{no_slot_is_late}
use Rattle.jop_cli.proofs.laws.slots_are_kept.Goals as goal

pub returns-clause-kept : goal.returns-clause-kept
returns-clause-kept c = slots_are_kept c.certificates_are_sound.ensures c.runs_are_in_a_row.ensures c.called_keep_bounds.ensures

pub returns-clause-late : goal.returns-clause-late
returns-clause-late c =
    no_slot_is_late (slots_are_kept c.certificates_are_sound.ensures c.runs_are_in_a_row.ensures c.called_keep_bounds.ensures) c.runs_are_in_a_row.ensures c.activations_are_seen.ensures

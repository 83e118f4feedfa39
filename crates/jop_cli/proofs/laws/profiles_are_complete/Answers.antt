use Rattle.jop_cli.proofs.ProfilingLaw as law
use Rattle.jop_cli.proofs.ShownProfiles.{profiles_are_shown}
use Rattle.jop_cli.proofs.laws.profiles_are_complete.Goals as goal

pub returns-clause-complete : goal.returns-clause-complete
returns-clause-complete c = law.profiles_are_complete c.one_linked.ensures c.linked_images_are_read.ensures c.read_is_not_refused.ensures

pub returns-clause-kept : goal.returns-clause-kept
returns-clause-kept c = law.profiles_are_kept c.certificates_are_sound.ensures c.runs_are_in_a_row.ensures c.profiles_keep_bounds.ensures

pub returns-clause-shown : goal.returns-clause-shown
returns-clause-shown c = profiles_are_shown

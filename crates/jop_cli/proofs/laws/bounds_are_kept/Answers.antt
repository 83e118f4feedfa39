use Rattle.jop_cli.proofs.AllBoundsLaw.{all_bounds_are_kept, shapes_are_kept, reports_are_kept}
use Rattle.jop_cli.proofs.KeptLaw.{checked_bounds_are_kept, written_bounds_are_kept}
use Rattle.jop_cli.proofs.PlansKept.{plans_are_kept}
use Rattle.jop_cli.proofs.laws.bounds_are_kept.Goals as goal

pub returns-clause-certificates : goal.returns-clause-certificates
returns-clause-certificates c = (checked_bounds_are_kept, written_bounds_are_kept)

pub returns-clause-all : goal.returns-clause-all
returns-clause-all c = all_bounds_are_kept c.certificates_are_sound.ensures

pub returns-clause-shapes : goal.returns-clause-shapes
returns-clause-shapes c = shapes_are_kept c.certificates_are_sound.ensures

pub returns-clause-reports : goal.returns-clause-reports
returns-clause-reports c = reports_are_kept c.certificates_are_sound.ensures

pub returns-clause-plans : goal.returns-clause-plans
returns-clause-plans c = plans_are_kept c.certificates_are_sound.ensures

use Rattle.boundary.proofs.BarePrograms.{runs_begin}
use Rattle.boundary.proofs.laws.bare_runs_begin.Goals as goal

pub returns : goal.returns
returns c = runs_begin c.bare_images_are_programs.ensures c.bare_images_begin.ensures c.the_boot_state_fits.ensures

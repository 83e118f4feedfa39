use Rattle.circuit_cycles.proofs.Fits.{fits_stay}
use Rattle.circuit_cycles.proofs.laws.fits_stay.Goals as goal

pub returns : goal.returns
returns c = fits_stay

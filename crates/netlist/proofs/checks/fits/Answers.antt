use Rattle.netlist.proofs.Tests.{wide_fits, shifted_out}
use Rattle.netlist.proofs.checks.fits.Goals as goal

pub returns-then-width-ge64 : goal.returns-then-width-ge64
returns-then-width-ge64 c = wide_fits c.args.word c.args.width c.ranges.word.fits c.if-width-ge64.true

pub returns-else-width-ge64 : goal.returns-else-width-ge64
returns-else-width-ge64 c = shifted_out c.args.word c.args.width

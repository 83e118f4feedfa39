use Rattle.section_check.proofs.Deciding.{covered}
use Rattle.section_check.proofs.descent.covers.Goals as goal

pub returns : goal.returns
returns c =
    covered c.args.above c.args.below c.args.fee c.from.result c.from-2.result c.args.cost c.args.iteration c.requires.above c.requires.below c.requires.least c.requires.most c.ranges.cost.fits c.ranges.iteration.fits c.from.ensures
    c.from-2.ensures

use Rattle.std.proofs.lemmas.Option.{slice_get-get_or}
use Rattle.micro_flow.specs.declared.table.TheConstants.{COSTS}
use Rattle.micro_flow.proofs.table.cost_of.Goals as goal

pub returns : goal.returns
returns c = slice_get-get_or COSTS c.args.op _ c.ranges.op.fits

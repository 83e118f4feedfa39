use Rattle.loop_finder.proofs.OneOf.{source_is}
use Rattle.loop_finder.proofs.setting.only_source.Goals as goal

pub returns : goal.returns
returns c = source_is c.args.routes.now c.args.node c.if-node-eq0.false c.sources.result.now c.sources.ensures.sources c.one_of.result c.one_of.ensures

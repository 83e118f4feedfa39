use Rattle.std.proofs.Common.{refl}
use Rattle.call_regions.proofs.Visiting.{closed}
use Rattle.call_regions.proofs.walk.leave.Goals as goal

pub returns-clause-walk : goal.returns-clause-walk
returns-clause-walk c = λ f was finished. closed f c.args.walk.now c.args.walk.now.visits.items c.args.visit was _ finished refl refl c.in_ok-push.ensures.items refl

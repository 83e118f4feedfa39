use Rattle.std.proofs.Common.{refl}
use Rattle.method_bounds.proofs.Walks.{closed}
use Rattle.method_bounds.proofs.walk.leave.Goals as goal

pub returns-clause-walk : goal.returns-clause-walk
returns-clause-walk c = λ f was finished. closed f c.args.walk.now c.args.walk.now.visits.items c.args.visit was _ finished refl c.in_ok-push.ensures.items refl

use Rattle.std.proofs.Common.{refl}
use Rattle.method_bounds.specs.declared.walk.Visit.{Visit}
use Rattle.method_bounds.proofs.Walks.{opened}
use Rattle.method_bounds.proofs.walk.open.Goals as goal

pub returns-clause-walk : goal.returns-clause-walk
returns-clause-walk c = λ f was new' next.
    let first : Visit = record { method = c.args.m; call = 0 } in
    opened f c.args.walk.now _ c.args.m first was c.requires new' next refl refl refl refl refl c.in_ok-push.ensures.items

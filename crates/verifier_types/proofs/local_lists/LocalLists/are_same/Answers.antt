use Rattle.std.proofs.Common.{◌≡◌, subst, rules}
use Rattle.std.specs.Prelude.{IsTrue, ◌↔◌}
use Rattle.verifier_types.specs.contracts.types.VarTypePartialEq.TheImpl.{eq-value}
use Rattle.verifier_types.specs.Locals.{types_at, lists_seen}
use Rattle.verifier_types.proofs.SameLemmas.{same_seen}
use Rattle.verifier_types.proofs.local_lists.LocalLists.are_same.Goals as goal

pub returns : goal.returns
returns c =
    subst (λ t. IsTrue c.is_none.result ↔ (types_at (lists_seen t) c.args.first ≡ types_at (lists_seen t) c.args.second)) c.self.view_is
    (same_seen eq-value.it (λ a b. search rules) c.self.inside.types.keys c.self.inside.lists c.args.first c.args.second c.self.invariant.0 c.len-count.ensures.unique c.difference.result c.is_none.result (search rules) c.difference.ensures.found)

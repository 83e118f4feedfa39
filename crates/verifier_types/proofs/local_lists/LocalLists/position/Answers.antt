use Rattle.std.proofs.Common.{refl, subst, Some, None}
use Rattle.verifier_types.specs.Locals.{types_at, lists_seen}
use Rattle.verifier_types.specs.Seen.{type_seen}
use Rattle.verifier_types.specs.Numbered.{HoldsUpTo}
use Rattle.verifier_types.proofs.NumberLemmas.{within_all}
use Rattle.verifier_types.proofs.PositionLemmas.{with_number, without_number}
use Rattle.verifier_types.proofs.local_lists.LocalLists.position.Goals as goal

pub returns-in-Some-clause-found : goal.returns-in-Some-clause-found
returns-in-Some-clause-found c =
    subst (λ t. HoldsUpTo (types_at (lists_seen t) c.args.list) (type_seen c.args.item) c.args.from c.position_in.result) c.self.view_is
    (with_number c.self.inside.types.keys c.self.inside.lists c.args.list c.args.item (Some c.in-Some.number) c.self.invariant.0 c.in-Some.ensures c.in-Some.number c.args.from c.position_in.result refl
    c.position_in.ensures.found)

pub returns-in-Some-clause-within : goal.returns-in-Some-clause-within
returns-in-Some-clause-within c = within_all c.position_in.result c.self.inside.lists.width c.self.invariant.0.2 c.position_in.ensures.within

pub returns-in-None-clause-found : goal.returns-in-None-clause-found
returns-in-None-clause-found c =
    subst (λ t. HoldsUpTo (types_at (lists_seen t) c.args.list) (type_seen c.args.item) c.args.from None) c.self.view_is
    (without_number c.self.inside.types.keys c.self.inside.lists c.args.list c.args.item None c.self.invariant.0 c.in-None.ensures c.args.from refl)

use Rattle.std.proofs.Common.{◌≡◌, ℕ, subst}
use Rattle.persistent_lists.specs.Tables.{list_at}
use Rattle.verifier_types.specs.Numbered.{HoldsUpTo}
use Rattle.verifier_types.proofs.PositionLemmas.{position_holds, each_holds}
use Rattle.verifier_types.proofs.local_lists.position_in.Goals as goal

pub returns-in-Ok-clause-found : goal.returns-in-Ok-clause-found
returns-in-Ok-clause-found c =
    let same : c.in-Ok.number ≡ c.args.number = (c.in-Ok.ensures).1 in
    subst (λ (n : ℕ). HoldsUpTo (list_at c.args.lists.now c.args.list) n c.args.from c.position.result) same
    (position_holds (list_at c.args.lists.now c.args.list) c.in-Ok.number c.args.from c.position.result c.position.ensures.found)

pub returns-in-Err-clause-found : goal.returns-in-Err-clause-found
returns-in-Err-clause-found c = each_holds (list_at c.args.lists.now c.args.list) c.args.number c.width.result c.args.from c.each_index.result (c.width.ensures.beyond c.args.list) c.each_index.ensures

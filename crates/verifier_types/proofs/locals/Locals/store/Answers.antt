use Rattle.std.proofs.Common.{◌≡◌, Some, None, subst}
use Rattle.std.specs.Prelude.{IfOk, if◌then◌else◌}
use Rattle.bytecode_model.specs.Slots.{stored_at}
use Rattle.bytecode_typing.specs.Types as typing
use Rattle.bytecode_typing.specs.Types.{is_long_type}
use Rattle.verifier_types.specs.Seen.{type_seen}
use Rattle.verifier_types.specs.Locals.{lists_seen, locals_seen}
use Rattle.verifier_types.proofs.NumberLemmas.{on_ok}
use Rattle.verifier_types.proofs.TableLemmas.{more_lists}
use Rattle.verifier_types.proofs.locals.Locals.store.Goals as goal

pub returns-clause-lists : goal.returns-clause-lists
returns-clause-lists c = on_ok c.store_at.result _ _ (more_lists c.args.lists.now c.forget_half.new.lists c.store_at.new.lists c.in_ok-forget_half.ensures.lists) c.store_at.ensures.lists

pub returns-clause-stored : goal.returns-clause-stored
returns-clause-stored c =
    subst
    (λ ts. IfOk c.store_at.result (λ done. (if done then Some (locals_seen (lists_seen c.store_at.new.lists) c.store_at.new.self) else None) ≡ stored_at is_long_type typing.Top ts c.args.index (type_seen c.args.item)))
    c.in_ok-forget_half.ensures.forgotten c.store_at.ensures.stored

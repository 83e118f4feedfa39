use Rattle.std.proofs.Common.{sym, ap, ◌∙◌, ◌++◌, ◌&&◌}
use Rattle.verifier_types.proofs.RowLemmas.{item_found}
use Rattle.bytecode_typing.specs.Types.{result_types}
use Rattle.verifier_types.specs.Frame.{frame_seen, operands_seen}
use Rattle.verifier_types.specs.Seen.{type_seen}
use Rattle.bytecode_verifier.proofs.RowLemmas.{need_holds, need_fails, left_with}
use Rattle.bytecode_verifier.proofs.calls.check_receiver.Goals as goal

pub returns-then-not-is_seen_as : goal.returns-then-not-is_seen_as
returns-then-not-is_seen_as c = λ s first k ls st g r.
    let f = record (frame_seen ls c.args.frame.now) { stack = first } in
    sym (item_found (operands_seen c.args.frame.now.operands) (type_seen c.in-Some.item) (operands_seen c.pop.new.self) _ c.in-Some.ensures
    ∙ need_fails _ _ _ (sym (c.is_seen_as.ensures s f st) ∙ c.if-not-is_seen_as.true))

pub returns : goal.returns
returns c = λ s first k ls st g r.
    let f = record (frame_seen ls c.args.frame.now) { stack = first } in
    left_with f _ _ _ _ _ _ (c.in_ok-push_result.ensures ∙ ap (λ o. result_types o ++ operands_seen c.pop.new.self) (sym r)) (c.may_access.ensures s f st g)
    (c.both.ensures ∙ ap (λ b. b && c.args.all) c.is_initialized.ensures)
    ∙ sym (item_found (operands_seen c.args.frame.now.operands) (type_seen c.in-Some.item) (operands_seen c.pop.new.self) _ c.in-Some.ensures
    ∙ need_holds _ _ _ (sym (c.is_seen_as.ensures s f st) ∙ c.if-not-is_seen_as.false))

use Rattle.std.proofs.Common.{sym, ap, ◌∙◌, ◌∷◌}
use Rattle.verifier_types.proofs.RowLemmas.{item_found}
use Rattle.program_tables.specs.Meanings.{declared_seen}
use Rattle.verifier_types.specs.Frame.{frame_seen, operands_seen}
use Rattle.verifier_types.specs.Seen.{type_seen}
use Rattle.bytecode_verifier.proofs.RowLemmas.{found_is, need_holds, need_fails, left_with}
use Rattle.bytecode_verifier.proofs.fields.check_get_field.Goals as goal

pub returns-then-not-is_seen_as : goal.returns-then-not-is_seen_as
returns-then-not-is_seen_as c = λ s owner index st g h ls.
    let f = frame_seen ls c.args.frame.now in
    sym (found_is _ (declared_seen c.args.declared) _ _ h
    ∙ (item_found (operands_seen c.args.frame.now.operands) (type_seen c.in-Some.item) (operands_seen c.pop.new.self) _ c.in-Some.ensures
    ∙ need_fails _ _ _ (sym (c.is_seen_as.ensures s f st) ∙ c.if-not-is_seen_as.true)))

pub returns : goal.returns
returns c = λ s owner index st g h ls.
    let f = frame_seen ls c.args.frame.now in
    left_with f _ _ _ _ _ _ (c.in_ok-push.ensures ∙ ap (λ t. t ∷ operands_seen c.pop.new.self) c.type_of.ensures) (c.may_access.ensures s f st g) c.is_initialized.ensures
    ∙ sym (found_is _ (declared_seen c.args.declared) _ _ h
    ∙ (item_found (operands_seen c.args.frame.now.operands) (type_seen c.in-Some.item) (operands_seen c.pop.new.self) _ c.in-Some.ensures
    ∙ need_holds _ _ _ (sym (c.is_seen_as.ensures s f st) ∙ c.if-not-is_seen_as.false)))

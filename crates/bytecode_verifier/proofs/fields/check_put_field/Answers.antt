use Rattle.std.proofs.Common.{sym, ap, ap₂, ◌∙◌, ◌&&◌, refl}
use Rattle.verifier_types.proofs.RowLemmas.{item_found}
use Rattle.bytecode_model.specs.Types.{OfClass}
use Rattle.bytecode_typing.specs.Checks as checks
use Rattle.program_tables.specs.Meanings.{declared_seen}
use Rattle.verifier_types.specs.Frame.{frame_seen, operands_seen}
use Rattle.verifier_types.specs.Seen.{type_seen}
use Rattle.bytecode_verifier.proofs.RowLemmas.{found_is, need_holds, need_fails, left_with}
use Rattle.bytecode_verifier.proofs.fields.check_put_field.Goals as goal

pub returns-then-not-is_seen_for : goal.returns-then-not-is_seen_for
returns-then-not-is_seen_for c = λ s index st g h ls.
    let f = frame_seen ls c.args.frame.now in
    sym (found_is _ (declared_seen c.args.declared) _ _ h
    ∙ (item_found (operands_seen c.args.frame.now.operands) (type_seen c.in-Some.item) (operands_seen c.pop.new.self) _ c.in-Some.ensures
    ∙ (item_found (operands_seen c.pop.new.self) (type_seen c.in-Some-pop.item) (operands_seen c.pop-2.new.self) _ c.in-Some-pop.ensures
    ∙ need_fails _ _ _ (ap (λ b. b && checks.is_seen_as s.program s.number s.method s.body s.maps s.place f (OfClass c.args.named) (type_seen c.in-Some-pop.item)) (sym (c.is_seen_for.ensures s f st) ∙ c.if-not-is_seen_for.true)))))

pub returns-then-not-is_seen_as : goal.returns-then-not-is_seen_as
returns-then-not-is_seen_as c = λ s index st g h ls.
    let f = frame_seen ls c.args.frame.now in
    sym (found_is _ (declared_seen c.args.declared) _ _ h
    ∙ (item_found (operands_seen c.args.frame.now.operands) (type_seen c.in-Some.item) (operands_seen c.pop.new.self) _ c.in-Some.ensures
    ∙ (item_found (operands_seen c.pop.new.self) (type_seen c.in-Some-pop.item) (operands_seen c.pop-2.new.self) _ c.in-Some-pop.ensures
    ∙ need_fails _ _ _ (ap₂ (λ a b. a && b) (sym (c.is_seen_for.ensures s f st) ∙ c.if-not-is_seen_for.false) (sym (c.is_seen_as.ensures s f st) ∙ c.if-not-is_seen_as.true)))))

pub returns : goal.returns
returns c = λ s index st g h ls.
    let f = frame_seen ls c.args.frame.now in
    left_with f _ _ _ _ _ _ refl (c.may_access.ensures s f st g) (c.may_put.ensures s f st)
    ∙ sym (found_is _ (declared_seen c.args.declared) _ _ h
    ∙ (item_found (operands_seen c.args.frame.now.operands) (type_seen c.in-Some.item) (operands_seen c.pop.new.self) _ c.in-Some.ensures
    ∙ (item_found (operands_seen c.pop.new.self) (type_seen c.in-Some-pop.item) (operands_seen c.pop-2.new.self) _ c.in-Some-pop.ensures
    ∙ need_holds _ _ _ (ap₂ (λ a b. a && b) (sym (c.is_seen_for.ensures s f st) ∙ c.if-not-is_seen_for.false) (sym (c.is_seen_as.ensures s f st) ∙ c.if-not-is_seen_as.false)))))

use Rattle.std.proofs.Common.{sym, ap, ap₂, ◌∙◌, ◌++◌, ◌&&◌}
use Rattle.verifier_types.proofs.RowLemmas.{item_found}
use Rattle.bytecode_model.specs.Types.{OfClass}
use Rattle.bytecode_typing.specs.Types.{result_types}
use Rattle.bytecode_typing.specs.Checks as checks
use Rattle.verifier_types.specs.Frame.{frame_seen, operands_seen}
use Rattle.verifier_types.specs.Seen.{type_seen}
use Rattle.bytecode_verifier.proofs.RowLemmas.{need_holds, need_fails, left_with}
use Rattle.bytecode_verifier.proofs.calls.check_super.Goals as goal

pub returns-then-not-both : goal.returns-then-not-both
returns-then-not-both c = λ s first k ls st g r.
    let f = record (frame_seen ls c.args.frame.now) { stack = first } in
    let t = type_seen c.in-Some.item in
    sym (item_found (operands_seen c.args.frame.now.operands) t (operands_seen c.pop.new.self) _ c.in-Some.ensures
    ∙ need_fails _ _ _ (ap₂ (λ a b. a && b) (sym (c.is_own_class.ensures s st))
    (ap (λ o. checks.is_seen_as s.program s.number s.method s.body s.maps s.place f (OfClass o) t) st.owner ∙ sym (c.is_seen_as.ensures s f st))
    ∙ (sym c.both.ensures ∙ c.if-not-both.true)))

pub returns : goal.returns
returns c = λ s first k ls st g r.
    let f = record (frame_seen ls c.args.frame.now) { stack = first } in
    let t = type_seen c.in-Some.item in
    left_with f _ _ _ _ _ _ (c.in_ok-push_result.ensures ∙ ap (λ o. result_types o ++ operands_seen c.pop.new.self) (sym r)) (c.may_access.ensures s f st g)
    (c.both-2.ensures ∙ ap (λ b. b && c.args.all) c.is_initialized.ensures)
    ∙ sym (item_found (operands_seen c.args.frame.now.operands) t (operands_seen c.pop.new.self) _ c.in-Some.ensures
    ∙ need_holds _ _ _ (ap₂ (λ a b. a && b) (sym (c.is_own_class.ensures s st))
    (ap (λ o. checks.is_seen_as s.program s.number s.method s.body s.maps s.place f (OfClass o) t) st.owner ∙ sym (c.is_seen_as.ensures s f st))
    ∙ (sym c.both.ensures ∙ c.if-not-both.false)))

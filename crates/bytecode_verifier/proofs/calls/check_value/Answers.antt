use Rattle.std.proofs.Common.{sym, ap, ap₂, ◌∙◌, ◌&&◌, true, None, refl}
use Rattle.verifier_types.proofs.RowLemmas.{item_found}
use Rattle.bytecode_typing.specs.Rules.{Leaves}
use Rattle.verifier_types.specs.Frame.{frame_seen, operands_seen}
use Rattle.verifier_types.specs.Seen.{type_seen}
use Rattle.bytecode_verifier.proofs.RowLemmas.{need_holds, need_fails}
use Rattle.bytecode_verifier.proofs.calls.check_value.Goals as goal

pub returns-then-not-both : goal.returns-then-not-both
returns-then-not-both c = λ s ls st.
    let f = frame_seen ls c.args.frame.now in
    sym (item_found (operands_seen c.args.frame.now.operands) (type_seen c.in-Some.item) (operands_seen c.pop.new.self) _ c.in-Some.ensures
    ∙ need_fails _ _ _ (ap₂ (λ a b. a && b) (sym c.is_moved.ensures) (sym (c.is_seen_for.ensures s f st)) ∙ (sym c.both.ensures ∙ c.if-not-both.true)))

pub returns : goal.returns
returns c = λ s ls st.
    let f = frame_seen ls c.args.frame.now in
    c.returns.ensures _
    ∙ (ap (λ b. Leaves None true b true) (c.both-2.ensures ∙ ap₂ (λ a b. a && b) c.is_initialized.ensures (c.may_return.ensures s f st refl))
    ∙ sym (item_found (operands_seen c.args.frame.now.operands) (type_seen c.in-Some.item) (operands_seen c.pop.new.self) _ c.in-Some.ensures
    ∙ need_holds _ _ _ (ap₂ (λ a b. a && b) (sym c.is_moved.ensures) (sym (c.is_seen_for.ensures s f st)) ∙ (sym c.both.ensures ∙ c.if-not-both.false))))

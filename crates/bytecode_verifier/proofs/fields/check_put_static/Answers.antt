use Rattle.std.proofs.Common.{sym, ◌∙◌}
use Rattle.verifier_types.proofs.RowLemmas.{item_found}
use Rattle.program_tables.specs.Meanings.{declared_seen}
use Rattle.verifier_types.specs.Frame.{frame_seen, operands_seen}
use Rattle.verifier_types.specs.Seen.{type_seen}
use Rattle.bytecode_verifier.proofs.RowLemmas.{found_is, need_holds, need_fails, used}
use Rattle.bytecode_verifier.proofs.fields.check_put_static.Goals as goal

pub returns-then-is_seen_for : goal.returns-then-is_seen_for
returns-then-is_seen_for c = λ s field st h ls.
    let f = frame_seen ls c.args.frame.now in
    used c.uses.result c.in-Some.item _ c.uses.ensures
    ∙ sym (found_is _ (declared_seen c.args.declared) _ _ h
    ∙ (item_found (operands_seen c.args.frame.now.operands) (type_seen c.in-Some.item) (operands_seen c.pop.new.self) _ c.in-Some.ensures
    ∙ need_holds _ _ _ (sym (c.is_seen_for.ensures s f st) ∙ c.if-is_seen_for.true)))

pub returns-else-is_seen_for : goal.returns-else-is_seen_for
returns-else-is_seen_for c = λ s field st h ls.
    let f = frame_seen ls c.args.frame.now in
    sym (found_is _ (declared_seen c.args.declared) _ _ h
    ∙ (item_found (operands_seen c.args.frame.now.operands) (type_seen c.in-Some.item) (operands_seen c.pop.new.self) _ c.in-Some.ensures
    ∙ need_fails _ _ _ (sym (c.is_seen_for.ensures s f st) ∙ c.if-is_seen_for.false)))

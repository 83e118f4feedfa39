use Rattle.std.proofs.Common.{sym, ap, ◌∙◌, true, None}
use Rattle.verifier_types.proofs.RowLemmas.{item_found}
use Rattle.bytecode_typing.specs.Rules.{Leaves}
use Rattle.verifier_types.specs.Frame.{frame_seen, operands_seen}
use Rattle.verifier_types.specs.Seen.{type_seen}
use Rattle.bytecode_verifier.proofs.RowLemmas.{need_holds, need_fails}
use Rattle.bytecode_verifier.proofs.objects.check_throw.Goals as goal

pub returns-then-not-is_seen_as : goal.returns-then-not-is_seen_as
returns-then-not-is_seen_as c = λ s st ls.
    let f = frame_seen ls c.args.frame.now in
    sym (item_found (operands_seen c.args.frame.now.operands) (type_seen c.in-Some.item) (operands_seen c.pop.new.self) _ c.in-Some.ensures
    ∙ need_fails _ _ _ (sym (c.is_seen_as.ensures s f st) ∙ c.if-not-is_seen_as.true))

pub returns : goal.returns
returns c = λ s st ls.
    let f = frame_seen ls c.args.frame.now in
    ap (λ b. Leaves None true b true) c.is_initialized.ensures
    ∙ sym (item_found (operands_seen c.args.frame.now.operands) (type_seen c.in-Some.item) (operands_seen c.pop.new.self) _ c.in-Some.ensures
    ∙ need_holds _ _ _ (sym (c.is_seen_as.ensures s f st) ∙ c.if-not-is_seen_as.false))

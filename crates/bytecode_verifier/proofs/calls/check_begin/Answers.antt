use Rattle.std.proofs.Common.{sym, ap, ◌∙◌, ◌&&◌, map}
use Rattle.verifier_types.proofs.RowLemmas.{item_found}
use Rattle.bytecode_typing.specs.Types.{substituted}
use Rattle.verifier_types.specs.Frame.{frame_seen, operands_seen}
use Rattle.verifier_types.specs.Locals.{lists_seen, locals_seen}
use Rattle.verifier_types.specs.Seen.{type_seen}
use Rattle.bytecode_verifier.proofs.RowLemmas.{need_holds}
use Rattle.bytecode_verifier.proofs.CallLemmas.{leaves_frame}
use Rattle.bytecode_verifier.proofs.calls.check_begin.Goals as goal

pub returns-clause-checks : goal.returns-clause-checks
returns-clause-checks c = λ s first st.
    let ls = lists_seen c.args.lists.now in
    let f = record (frame_seen ls c.args.frame.now) { stack = first } in
    let t = type_seen c.in-Some.item in
    let e = c.seen-begun.ensures.seen s st in
    leaves_frame _ _ _ _ _ _ _ _
    (c.in_ok-substitute.ensures.substituted ∙ ap (λ u. map (substituted t u) (locals_seen ls c.args.frame.now.locals)) e)
    (c.substitute-2.ensures ∙ ap (λ u. map (substituted t u) (operands_seen c.pop.new.self)) e)
    c.keeps-frame.ensures
    (c.both.ensures ∙ ap (λ b. c.args.all && b) (c.may_begin.ensures s f st))
    ∙ sym (item_found (operands_seen c.args.frame.now.operands) t (operands_seen c.pop.new.self) _ c.in-Some.ensures ∙ need_holds _ _ _ (sym c.is_reference.ensures ∙ c.if-not-is_reference.false))

use Rattle.std.proofs.Common.{sym, ap, ◌∙◌, map}
use Rattle.std.proofs.lemmas.Result.{IfOk-weaker}
use Rattle.program_tables.specs.Meanings.{declared_seen}
use Rattle.verifier_types.specs.Locals.{lists_seen}
use Rattle.verifier_types.specs.Frame.{frame_seen, operands_seen}
use Rattle.bytecode_verifier.proofs.RowLemmas.{found_is}
use Rattle.bytecode_verifier.proofs.CallLemmas.{arguments_there, arguments_lost, if_init, if_other, checks_special}
use Rattle.bytecode_verifier.proofs.calls.check_special.Goals as goal

pub returns-in-None-clause-checks : goal.returns-in-None-clause-checks
returns-in-None-clause-checks c = λ s number k st g m h.
    sym (found_is _ k _ _ m
    ∙ arguments_lost c.what_is_taken_is_found.ensures s k.parameters (map declared_seen c.as_slice.result.now) (operands_seen c.args.frame.now.operands) _
    (h.parameters ∙ ap (map declared_seen) (sym c.as_slice.ensures)) (c.in-None.ensures s st))

pub returns-then-callee-clause-checks : goal.returns-then-callee-clause-checks
returns-then-callee-clause-checks c = IfOk-weaker c.check_begin.result _ _ (λ x p s number k st g m h.
    let first = operands_seen c.args.frame.now.operands in
    let f = frame_seen (lists_seen c.args.lists.now) c.args.frame.now in
    p s first st
    ∙ if_init s f c.args.named c.in-Some.all k (operands_seen c.pop_arguments.new.operands) (h.is_init ∙ c.if-callee.true)
    ∙ sym (found_is _ k _ _ m
    ∙ arguments_there c.what_is_taken_is_found.ensures s k.parameters (map declared_seen c.as_slice.result.now) first c.in-Some.all (operands_seen c.pop_arguments.new.operands)
    (λ b more. checks_special s f c.args.named b k more) (h.parameters ∙ ap (map declared_seen) (sym c.as_slice.ensures)) (c.in-Some.ensures s st))) c.check_begin.ensures.checks

pub returns-clause-checks : goal.returns-clause-checks
returns-clause-checks c = IfOk-weaker c.check_super.result _ _ (λ x p s number k st g m h.
    let first = operands_seen c.args.frame.now.operands in
    p s first k (lists_seen c.args.lists.now) st g h.result
    ∙ (if_other s (frame_seen (lists_seen c.args.lists.now) c.args.frame.now) c.args.named c.in-Some.all k (operands_seen c.pop_arguments.new.operands) (h.is_init ∙ c.if-callee.false)
    ∙ sym (found_is _ k _ _ m
    ∙ arguments_there c.what_is_taken_is_found.ensures s k.parameters (map declared_seen c.as_slice.result.now) first c.in-Some.all (operands_seen c.pop_arguments.new.operands)
    (λ b more. checks_special s (frame_seen (lists_seen c.args.lists.now) c.args.frame.now) c.args.named b k more) (h.parameters ∙ ap (map declared_seen) (sym c.as_slice.ensures)) (c.in-Some.ensures s st)))) c.check_super.ensures

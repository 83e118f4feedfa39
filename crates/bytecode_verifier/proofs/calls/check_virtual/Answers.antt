use Rattle.std.proofs.Common.{sym, ap, ◌∙◌, map}
use Rattle.std.proofs.lemmas.Result.{IfOk-weaker}
use Rattle.program_tables.specs.Meanings.{declared_seen}
use Rattle.verifier_types.specs.Frame.{frame_seen, operands_seen}
use Rattle.bytecode_verifier.specs.Calls.{virtual_left}
use Rattle.bytecode_verifier.proofs.RowLemmas.{found_is}
use Rattle.bytecode_verifier.proofs.CallLemmas.{arguments_there, arguments_lost}
use Rattle.bytecode_verifier.proofs.calls.check_virtual.Goals as goal

pub returns-in-None-clause-class : goal.returns-in-None-clause-class
returns-in-None-clause-class c = λ s number k st g m h ls.
    sym (found_is _ k _ _ m
    ∙ arguments_lost c.what_is_taken_is_found.ensures s k.parameters (map declared_seen c.as_slice.result.now) (operands_seen c.args.frame.now.operands) _
    (h.parameters ∙ ap (map declared_seen) (sym c.as_slice.ensures)) (c.in-None.ensures s st))

pub returns-in-None-clause-interface : goal.returns-in-None-clause-interface
returns-in-None-clause-interface c = λ s number k st g m h ls.
    sym (found_is _ k _ _ m
    ∙ arguments_lost c.what_is_taken_is_found.ensures s k.parameters (map declared_seen c.as_slice.result.now) (operands_seen c.args.frame.now.operands) _
    (h.parameters ∙ ap (map declared_seen) (sym c.as_slice.ensures)) (c.in-None.ensures s st))

pub returns-clause-class : goal.returns-clause-class
returns-clause-class c = IfOk-weaker c.check_receiver.result _ _ (λ x p s number k st g m h ls.
    let first = operands_seen c.args.frame.now.operands in
    p s first k ls st g h.result
    ∙ sym (found_is _ k _ _ m
    ∙ arguments_there c.what_is_taken_is_found.ensures s k.parameters (map declared_seen c.as_slice.result.now) first c.in-Some.all (operands_seen c.pop_arguments.new.operands)
    (λ b more. virtual_left s (frame_seen ls c.args.frame.now) c.args.named b k more) (h.parameters ∙ ap (map declared_seen) (sym c.as_slice.ensures)) (c.in-Some.ensures s st))) c.check_receiver.ensures

pub returns-clause-interface : goal.returns-clause-interface
returns-clause-interface c = IfOk-weaker c.check_receiver.result _ _ (λ x p s number k st g m h ls.
    let first = operands_seen c.args.frame.now.operands in
    p s first k ls st g h.result
    ∙ sym (found_is _ k _ _ m
    ∙ arguments_there c.what_is_taken_is_found.ensures s k.parameters (map declared_seen c.as_slice.result.now) first c.in-Some.all (operands_seen c.pop_arguments.new.operands)
    (λ b more. virtual_left s (frame_seen ls c.args.frame.now) c.args.named b k more) (h.parameters ∙ ap (map declared_seen) (sym c.as_slice.ensures)) (c.in-Some.ensures s st))) c.check_receiver.ensures

use Rattle.std.proofs.Common.{sym, ap, ◌∙◌, ◌++◌, refl, true, map, Some}
use Rattle.bytecode_typing.specs.Types.{result_types}
use Rattle.bytecode_typing.specs.Rules.{Leaves}
use Rattle.program_tables.specs.Meanings.{declared_seen}
use Rattle.verifier_types.specs.Frame.{frame_seen, operands_seen}
use Rattle.bytecode_verifier.proofs.RowLemmas.{found_is, left_with}
use Rattle.bytecode_verifier.proofs.CallLemmas.{arguments_there, arguments_lost}
use Rattle.bytecode_verifier.proofs.calls.check_static.Goals as goal

pub returns-in-None : goal.returns-in-None
returns-in-None c = λ s number k st m h ls.
    sym (found_is _ k _ _ m
    ∙ arguments_lost c.what_is_taken_is_found.ensures s k.parameters (map declared_seen c.as_slice.result.now) (operands_seen c.args.frame.now.operands) _
    (h.parameters ∙ ap (map declared_seen) (sym c.as_slice.ensures)) (c.in-None.ensures s st))

pub returns : goal.returns
returns c = λ s number k st m h ls.
    let f = frame_seen ls c.args.frame.now in
    let rest = operands_seen c.pop_arguments.new.operands in
    left_with f _ _ _ _ _ _ (c.in_ok-push_result.ensures ∙ ap (λ o. result_types o ++ rest) (sym h.result)) refl refl
    ∙ sym (found_is _ k _ _ m
    ∙ arguments_there c.what_is_taken_is_found.ensures s k.parameters (map declared_seen c.as_slice.result.now) (operands_seen c.args.frame.now.operands) c.in-Some.all rest
    (λ b more. Leaves (Some (record f { stack = result_types k.result ++ more })) true b true) (h.parameters ∙ ap (map declared_seen) (sym c.as_slice.ensures)) (c.in-Some.ensures s st))

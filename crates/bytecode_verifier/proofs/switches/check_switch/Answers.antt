use Rattle.std.proofs.Common.{sym, ap, ap₂, ◌∙◌, ◌&&◌, true, None}
use Rattle.std.specs.List.{list_all}
use Rattle.opcodes.specs.Target.{cases_of}
use Rattle.bytecode_typing.specs.Rules.{Leaves}
use Rattle.program_tables.specs.Resolved.{resolved}
use Rattle.verifier_types.specs.declared.frame.TypeFrame.{TypeFrame}
use Rattle.verifier_types.specs.Frame.{frame_seen, operands_seen}
use Rattle.verifier_types.specs.Locals.{LocalTable, lists_seen}
use Rattle.bytecode_verifier.specs.Switched.{is_case_taken}
use Rattle.bytecode_verifier.proofs.RowLemmas.{int_found}
use Rattle.bytecode_verifier.proofs.SwitchLemmas.{reaches_is, same_tests}
use Rattle.bytecode_verifier.proofs.switches.check_switch.Goals as goal

pub returns-clause-checks : goal.returns-clause-checks
returns-clause-checks c = λ s p e h.
    let t = c.args.lists.now in
    let P = resolved t.classes in
    let f = frame_seen (lists_seen t) c.args.frame.now in
    let left : TypeFrame = record c.args.frame.now { operands = c.pop_numbers.new.self } in
    let rest = operands_seen c.pop_numbers.new.self in
    let cases = cases_of c.args.code.now c.args.instr.now in
    let same = ap (λ (u : LocalTable). list_all (is_case_taken u c.args.maps.now c.args.place (frame_seen (lists_seen u) left)) cases) c.leads_default-default.ensures.kept in
    ap (λ b. Leaves None true true b) (c.both.ensures ∙ ap₂ (λ a b. a && b)
    (c.leads_default-default.ensures.taken ∙ sym (reaches_is s P (lists_seen t) c.args.maps.now c.args.place f rest c.args.instr.now.first p e h))
    ((c.are_taken-cases.ensures.taken ∙ same) ∙ same_tests _ _ cases (λ k. sym (reaches_is s P (lists_seen t) c.args.maps.now c.args.place f rest k.offset p e h))))
    ∙ sym (int_found (operands_seen c.args.frame.now.operands) rest _ c.if-not-pop_numbers.ensures)

pub returns-clause-kept : goal.returns-clause-kept
returns-clause-kept c = c.are_taken-cases.ensures.kept ∙ c.leads_default-default.ensures.kept

use Rattle.std.proofs.Common.{sym, ap₂, ◌∙◌, true, Some}
use Rattle.program_tables.specs.Resolved.{resolved}
use Rattle.bytecode_typing.specs.Rules.{Leaves}
use Rattle.verifier_types.specs.Frame.{frame_seen, frame_at_seen, operands_seen}
use Rattle.verifier_types.specs.Seen.{type_seen}
use Rattle.verifier_types.specs.Locals.{lists_seen}
use Rattle.verifier_types.proofs.RowLemmas.{reached, reference_found}
use Rattle.verifier_types.proofs.branches.check_same.Goals as goal

pub returns-clause-checks : goal.returns-clause-checks
returns-clause-checks c = λ s wanted offset p t.
    let ls = lists_seen c.args.lists.now in
    let f = frame_seen ls c.args.frame.now in
    let first = operands_seen c.pop_reference.new.self in
    let second = operands_seen c.pop_reference-2.new.self in
    ap₂ (Leaves (Some (record f { stack = second })) true) c.are_initialized.ensures (c.reaches.ensures.flows ∙ reached s (resolved c.args.lists.now.classes) f second offset (frame_at_seen ls c.args.target) p t)
    ∙ sym (reference_found (operands_seen c.args.frame.now.operands) (type_seen c.in-Some.item) first _ c.in-Some.ensures
    ∙ reference_found first (type_seen c.in-Some-pop_reference.item) second _ c.in-Some-pop_reference.ensures)

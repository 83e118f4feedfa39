use Rattle.std.proofs.Common.{sym, ap, ◌∙◌, map, true, Some}
use Rattle.program_tables.specs.Resolved.{resolved}
use Rattle.bytecode_typing.specs.Rules.{Leaves}
use Rattle.verifier_types.specs.Frame.{frame_seen, frame_at_seen, operands_seen}
use Rattle.verifier_types.specs.Seen.{number_seen}
use Rattle.verifier_types.specs.Locals.{lists_seen}
use Rattle.verifier_types.proofs.RowLemmas.{reached, numbers_found, numbers_lost}
use Rattle.verifier_types.proofs.branches.check_branch.Goals as goal

pub returns-then-not-pop_numbers-clause-checks : goal.returns-then-not-pop_numbers-clause-checks
returns-then-not-pop_numbers-clause-checks c = λ s test offset p t.
    sym (numbers_lost (map number_seen c.args.taken.now) (operands_seen c.args.frame.now.operands) _ c.if-not-pop_numbers.ensures)

pub returns-clause-checks : goal.returns-clause-checks
returns-clause-checks c = λ s test offset p t.
    let ls = lists_seen c.args.lists.now in
    let f = frame_seen ls c.args.frame.now in
    let rest = operands_seen c.pop_numbers.new.self in
    ap (Leaves (Some (record f { stack = rest })) true true) (c.reaches.ensures.flows ∙ reached s (resolved c.args.lists.now.classes) f rest offset (frame_at_seen ls c.args.target) p t)
    ∙ sym (numbers_found (map number_seen c.args.taken.now) (operands_seen c.args.frame.now.operands) rest _ c.if-not-pop_numbers.ensures)

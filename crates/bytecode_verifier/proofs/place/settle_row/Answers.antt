use Rattle.std.proofs.Common.{List, true, false, sym, ap, ◌∙◌, ◌≡◌, map, subst}
use Rattle.std.specs.Prelude.{IfSome}
use Rattle.class_pool.specs.declared.class.ClassFile.{ClassFile}
use Rattle.bytecode_model.specs.Table.{row_of}
use Rattle.bytecode_typing.specs.Walk.{is_formed, handlers_hold, settled}
use Rattle.program_tables.specs.Meanings.{operand_seen, handler_seen}
use Rattle.program_tables.specs.Resolved.{resolved}
use Rattle.verifier_types.specs.Frame.{frame_seen}
use Rattle.verifier_types.specs.Locals.{HasListsOf, LocalTable, lists_seen}
use Rattle.bytecode_verifier.specs.Checking.{IsAt}
use Rattle.bytecode_verifier.specs.Maps.{frames_at}
use Rattle.bytecode_verifier.specs.Plain.{check_found}
use Rattle.bytecode_verifier.specs.Place.{site_at}
use Rattle.bytecode_verifier.proofs.HeldLemmas.{held_here}
use Rattle.bytecode_verifier.proofs.PlaceLemmas.{given_now, stands_at, same_handlers, not_formed, formed, by_code}
use Rattle.bytecode_verifier.proofs.place.settle_row.Goals as goal

pub returns-then-not-is_formed-clause-verdict : goal.returns-then-not-is_formed-clause-verdict
returns-then-not-is_formed-clause-verdict c = λ n m b maps h k held.
    let P = resolved c.args.checking.now.program.now in
    let code = c.args.checking.now.code.now in
    let i = c.args.x.now.instr in
    let row = row_of code i (operand_seen c.args.x.now.operand) in
    not_formed P n m b maps c.args.place (frame_seen (lists_seen c.args.lists.now) c.args.frame.now) i row
    (by_code P b.code code c.args.place i row false h.code (subst (λ x. IfSome row (λ r. x ≡ is_formed P code c.args.place i r)) c.if-not-is_formed.true c.is_formed.ensures))

pub returns-clause-verdict : goal.returns-clause-verdict
returns-clause-verdict c = λ n m b maps h k held.
    let x = c.args.checking.now in
    let P = resolved x.program.now in
    let code = x.code.now in
    let i = c.args.x.now.instr in
    let f = frame_seen (lists_seen c.args.lists.now) c.args.frame.now in
    let row = row_of code i (operand_seen c.args.x.now.operand) in
    let s = site_at x n m b maps c.args.place in
    let t = c.args.lists.now in
    let kept = c.are_handled-handled.ensures.kept in
    let at : IsAt c.are_handled-handled.new.lists x c.args.place c.args.x.now s = subst (λ (u : LocalTable). IsAt u x c.args.place c.args.x.now s) (sym kept) (stands_at t x n m b maps c.args.place c.args.x.now c.is_resolved.ensures h k) in
    let given = given_now (lists_seen c.args.lists.now) x.maps.now maps h.maps in
    let items = map handler_seen x.handlers.now.items.items in
    let here = held_here P (resolved t.classes) maps (frames_at (lists_seen c.args.lists.now) x.maps.now) c.args.asked f b.handlers items h.handlers given (ap resolved h.classes) held in
    let handled : handlers_hold P maps c.args.place f b.handlers ≡ c.are_handled-handled.result =
    h.handlers P maps c.args.place f
    ∙ (same_handlers P maps (frames_at (lists_seen c.args.lists.now) x.maps.now) c.args.place f items given
    ∙ (ap (λ (cs : List ClassFile). handlers_hold (resolved cs) (frames_at (lists_seen c.args.lists.now) x.maps.now) c.args.place f items) (sym h.classes) ∙ sym (c.are_handled-handled.ensures.handled here))) in
    c.settle.ensures s f (lists_seen c.check_row.new.lists) h.stack handled
    ∙ (ap (settled P n m b maps c.args.place f) (c.in_ok-checked.ensures.checks s at ∙ ap (λ (u : LocalTable). check_found s (frame_seen (lists_seen u) c.args.frame.now) row) kept)
    ∙ formed x n m b maps c.args.place f i row
    (by_code P b.code code c.args.place i row true h.code (subst (λ y. IfSome row (λ r. y ≡ is_formed P code c.args.place i r)) c.if-not-is_formed.false c.is_formed.ensures)))

pub returns-clause-lists : goal.returns-clause-lists
returns-clause-lists c = subst (λ (u : LocalTable). HasListsOf u c.check_row.new.lists) c.are_handled-handled.ensures.kept c.in_ok-checked.ensures.lists

use Rattle.std.proofs.Common.{◌∙◌, map, true}
use Rattle.verifier_types.specs.Frame.{frame_seen, frame_at_seen}
use Rattle.verifier_types.specs.Locals.{lists_seen}
use Rattle.verifier_types.specs.Seen.{number_seen}
use Rattle.bytecode_verifier.specs.Plain.{any_of}
use Rattle.bytecode_verifier.proofs.FindLemmas.{by_leads}
use Rattle.bytecode_verifier.proofs.LeadsLemmas.{same_classes, target_is}
use Rattle.bytecode_verifier.proofs.rows.check_leads.Goals as goal

pub returns-in-Branch-clause-checks : goal.returns-in-Branch-clause-checks
returns-in-Branch-clause-checks c = λ s x o h.
    let m = c.args.checking.now in
    let f = frame_seen (lists_seen c.args.lists.now) c.args.frame.now in
    let i = c.args.instr.now in
    c.check_branch.ensures.checks s (any_of (map number_seen c.in-Branch.taken.now) true) i.first (same_classes c.args.lists.now m c.args.place x s h)
    (target_is s (lists_seen c.args.lists.now) m.maps.now c.args.place f i.first (frame_at_seen (lists_seen c.args.lists.now) c.branch_target.result) h.place h.maps (c.branch_target.ensures (lists_seen c.args.lists.now)))
    ∙ by_leads s f m.code.now i o c.args.family _ c.in-Branch.is

pub returns-in-Same-clause-checks : goal.returns-in-Same-clause-checks
returns-in-Same-clause-checks c = λ s x o h.
    let m = c.args.checking.now in
    let f = frame_seen (lists_seen c.args.lists.now) c.args.frame.now in
    let i = c.args.instr.now in
    c.check_same.ensures.checks s true i.first (same_classes c.args.lists.now m c.args.place x s h)
    (target_is s (lists_seen c.args.lists.now) m.maps.now c.args.place f i.first (frame_at_seen (lists_seen c.args.lists.now) c.branch_target-in-Same.result) h.place h.maps (c.branch_target-in-Same.ensures (lists_seen c.args.lists.now)))
    ∙ by_leads s f m.code.now i o c.args.family _ c.in-Same.is

pub returns-in-IsNull-clause-checks : goal.returns-in-IsNull-clause-checks
returns-in-IsNull-clause-checks c = λ s x o h.
    let m = c.args.checking.now in
    let f = frame_seen (lists_seen c.args.lists.now) c.args.frame.now in
    let i = c.args.instr.now in
    c.check_null.ensures.checks s true i.first (same_classes c.args.lists.now m c.args.place x s h)
    (target_is s (lists_seen c.args.lists.now) m.maps.now c.args.place f i.first (frame_at_seen (lists_seen c.args.lists.now) c.branch_target-in-IsNull.result) h.place h.maps (c.branch_target-in-IsNull.ensures (lists_seen c.args.lists.now)))
    ∙ by_leads s f m.code.now i o c.args.family _ c.in-IsNull.is

pub returns-in-Jump-clause-checks : goal.returns-in-Jump-clause-checks
returns-in-Jump-clause-checks c = λ s x o h.
    let m = c.args.checking.now in
    let f = frame_seen (lists_seen c.args.lists.now) c.args.frame.now in
    let i = c.args.instr.now in
    c.check_jump.ensures.checks s i.first (same_classes c.args.lists.now m c.args.place x s h)
    (target_is s (lists_seen c.args.lists.now) m.maps.now c.args.place f i.first (frame_at_seen (lists_seen c.args.lists.now) c.branch_target-in-Jump.result) h.place h.maps (c.branch_target-in-Jump.ensures (lists_seen c.args.lists.now)))
    ∙ by_leads s f m.code.now i o c.args.family _ c.in-Jump.is

pub returns-in-TableSwitch-clause-checks : goal.returns-in-TableSwitch-clause-checks
returns-in-TableSwitch-clause-checks c = λ s x o h.
    c.check_switch.ensures.checks s (same_classes c.args.lists.now c.args.checking.now c.args.place x s h) h.place h.maps ∙ by_leads s (frame_seen (lists_seen c.args.lists.now) c.args.frame.now) c.args.checking.now.code.now c.args.instr.now o c.args.family _ c.in-TableSwitch.is

pub returns-in-Throw-clause-checks : goal.returns-in-Throw-clause-checks
returns-in-Throw-clause-checks c = λ s x o h. c.check_throw.ensures s h.around (lists_seen c.args.lists.now) ∙ by_leads s (frame_seen (lists_seen c.args.lists.now) c.args.frame.now) c.args.checking.now.code.now c.args.instr.now o c.args.family _ c.in-Throw.is

pub returns-in-Return-clause-checks : goal.returns-in-Return-clause-checks
returns-in-Return-clause-checks c = λ s x o h. c.check_return.ensures s h.around h.result (lists_seen c.args.lists.now) ∙ by_leads s (frame_seen (lists_seen c.args.lists.now) c.args.frame.now) c.args.checking.now.code.now c.args.instr.now o c.args.family _ c.in-Return.is

use Rattle.std.proofs.Common.{ap, ◌∙◌}
use Rattle.std.proofs.lemmas.Result.{IfOk-weaker}
use Rattle.program_tables.specs.Meanings.{operand_seen}
use Rattle.verifier_types.specs.Frame.{frame_seen}
use Rattle.verifier_types.specs.Locals.{LocalTable, lists_seen}
use Rattle.verifier_types.specs.Site.{checked_seen}
use Rattle.bytecode_verifier.proofs.LeadsLemmas.{by_family}
use Rattle.bytecode_verifier.proofs.ListedLemmas.{lists_same}
use Rattle.bytecode_verifier.proofs.rows.check_row.Goals as goal

pub returns-in-Unknown-clause-checks : goal.returns-in-Unknown-clause-checks
returns-in-Unknown-clause-checks c = λ s h.
    by_family s (frame_seen (lists_seen c.args.lists.now) c.args.frame.now) c.args.checking.now.code.now c.args.x.now.instr (operand_seen c.args.x.now.operand) c.family_of.result _ c.family_of.ensures c.in-Unknown.is

pub returns-in-Value-clause-checks : goal.returns-in-Value-clause-checks
returns-in-Value-clause-checks c = IfOk-weaker c.check_value.result _ _ (λ y p s h.
    let o = operand_seen c.args.x.now.operand in
    p s c.args.checking.now.code.now o h.locals
    ∙ by_family s (frame_seen (lists_seen c.args.lists.now) c.args.frame.now) c.args.checking.now.code.now c.args.x.now.instr o c.family_of.result _ c.family_of.ensures c.in-Value.is) c.check_value.ensures.checks

pub returns-in-Array-clause-checks : goal.returns-in-Array-clause-checks
returns-in-Array-clause-checks c = IfOk-weaker c.check_array.result _ _ (λ y p s h.
    let o = operand_seen c.args.x.now.operand in
    p s c.args.checking.now.code.now o (lists_seen c.args.lists.now)
    ∙ by_family s (frame_seen (lists_seen c.args.lists.now) c.args.frame.now) c.args.checking.now.code.now c.args.x.now.instr o c.family_of.result _ c.family_of.ensures c.in-Array.is) c.check_array.ensures

pub returns-in-Named-clause-checks : goal.returns-in-Named-clause-checks
returns-in-Named-clause-checks c = IfOk-weaker c.check_named.result _ _ (λ y p s h.
    let o = operand_seen c.args.x.now.operand in
    p s c.args.checking.now.code.now c.args.x.now.instr h.place h.text
    ∙ by_family s (frame_seen (lists_seen c.args.lists.now) c.args.frame.now) c.args.checking.now.code.now c.args.x.now.instr o c.family_of.result _ c.family_of.ensures c.in-Named.is) c.check_named.ensures.checks

pub returns-in-Field-clause-checks : goal.returns-in-Field-clause-checks
returns-in-Field-clause-checks c = IfOk-weaker c.check_field.result _ _ (λ y p s h.
    let o = operand_seen c.args.x.now.operand in
    p s c.args.place c.args.checking.now.code.now c.args.x.now.instr c.args.lists.now h
    ∙ by_family s (frame_seen (lists_seen c.args.lists.now) c.args.frame.now) c.args.checking.now.code.now c.args.x.now.instr o c.family_of.result _ c.family_of.ensures c.in-Field.is) c.check_field.ensures

pub returns-in-Call-clause-checks : goal.returns-in-Call-clause-checks
returns-in-Call-clause-checks c = IfOk-weaker c.check_call.result _ _ (λ y p s h.
    let o = operand_seen c.args.x.now.operand in
    p s c.args.place c.args.checking.now.code.now c.args.x.now.instr h
    ∙ by_family s (frame_seen (lists_seen c.args.lists.now) c.args.frame.now) c.args.checking.now.code.now c.args.x.now.instr o c.family_of.result _ c.family_of.ensures c.in-Call.is) c.check_call.ensures.checks

pub returns-in-Leads-clause-checks : goal.returns-in-Leads-clause-checks
returns-in-Leads-clause-checks c = λ s h.
    let o = operand_seen c.args.x.now.operand in
    let after = c.check_leads.new.frame in
    ap (λ (t : LocalTable). checked_seen c.check_leads.result (frame_seen (lists_seen t) after)) c.check_leads.ensures.kept
    ∙ (c.check_leads.ensures.checks s c.args.x.now o h
    ∙ by_family s (frame_seen (lists_seen c.args.lists.now) c.args.frame.now) c.args.checking.now.code.now c.args.x.now.instr o c.family_of.result _ c.family_of.ensures c.in-Leads.is)

pub returns-in-Leads-clause-lists : goal.returns-in-Leads-clause-lists
returns-in-Leads-clause-lists c = lists_same c.args.lists.now c.check_leads.new.lists c.check_leads.ensures.kept

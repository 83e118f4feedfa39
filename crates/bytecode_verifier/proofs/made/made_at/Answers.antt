use Rattle.std.proofs.Common.{refl, sym, ◌∙◌}
use Rattle.program_tables.specs.Meanings.{operand_seen}
use Rattle.program_tables.specs.Resolved.{resolved}
use Rattle.bytecode_verifier.specs.Family.{value_row, array_row, field_row}
use Rattle.bytecode_verifier.proofs.FormLemmas.{has_row, made_as}
use Rattle.bytecode_verifier.proofs.OrdinaryLemmas.{makes_none, value_ordinary, array_ordinary, field_ordinary, call_makes_none, leads_make_none}
use Rattle.bytecode_verifier.proofs.made.made_at.Goals as goal

pub returns-in-Named : goal.returns-in-Named
returns-in-Named c =
    let i = c.in_ok-x.x.instr in
    let o = operand_seen c.in_ok-x.x.operand in
    let r = has_row (resolved c.args.program.now) c.args.method c.args.place i o c.in_ok-x.ensures.instr c.in_ok-x.ensures.operand in
    c.made_by.ensures r.code i ∙ sym (r.made ∙ made_as r.code i o c.family_of.result _ c.family_of.ensures c.in-Named.is)

pub returns-in-Unknown : goal.returns-in-Unknown
returns-in-Unknown c =
    let i = c.in_ok-x.x.instr in
    let o = operand_seen c.in_ok-x.x.operand in
    let r = has_row (resolved c.args.program.now) c.args.method c.args.place i o c.in_ok-x.ensures.instr c.in_ok-x.ensures.operand in
    refl ∙ sym (r.made ∙ made_as r.code i o c.family_of.result _ c.family_of.ensures c.in-Unknown.is)

pub returns-in-Value : goal.returns-in-Value
returns-in-Value c =
    let i = c.in_ok-x.x.instr in
    let o = operand_seen c.in_ok-x.x.operand in
    let r = has_row (resolved c.args.program.now) c.args.method c.args.place i o c.in_ok-x.ensures.instr c.in_ok-x.ensures.operand in
    sym (makes_none (value_row c.in-Value.field-0 r.code i o) (value_ordinary c.in-Value.field-0 r.code i o)) ∙ sym (r.made ∙ made_as r.code i o c.family_of.result _ c.family_of.ensures c.in-Value.is)

pub returns-in-Array : goal.returns-in-Array
returns-in-Array c =
    let i = c.in_ok-x.x.instr in
    let o = operand_seen c.in_ok-x.x.operand in
    let r = has_row (resolved c.args.program.now) c.args.method c.args.place i o c.in_ok-x.ensures.instr c.in_ok-x.ensures.operand in
    sym (makes_none (array_row c.in-Array.field-0 r.code i o) (array_ordinary c.in-Array.field-0 r.code i o)) ∙ sym (r.made ∙ made_as r.code i o c.family_of.result _ c.family_of.ensures c.in-Array.is)

pub returns-in-Field : goal.returns-in-Field
returns-in-Field c =
    let i = c.in_ok-x.x.instr in
    let o = operand_seen c.in_ok-x.x.operand in
    let r = has_row (resolved c.args.program.now) c.args.method c.args.place i o c.in_ok-x.ensures.instr c.in_ok-x.ensures.operand in
    sym (makes_none (field_row c.in-Field.field-0 r.code i o) (field_ordinary c.in-Field.field-0 r.code i o)) ∙ sym (r.made ∙ made_as r.code i o c.family_of.result _ c.family_of.ensures c.in-Field.is)

pub returns-in-Call : goal.returns-in-Call
returns-in-Call c =
    let i = c.in_ok-x.x.instr in
    let o = operand_seen c.in_ok-x.x.operand in
    let r = has_row (resolved c.args.program.now) c.args.method c.args.place i o c.in_ok-x.ensures.instr c.in_ok-x.ensures.operand in
    sym (call_makes_none c.in-Call.field-0 r.code i o) ∙ sym (r.made ∙ made_as r.code i o c.family_of.result _ c.family_of.ensures c.in-Call.is)

pub returns-in-Leads : goal.returns-in-Leads
returns-in-Leads c =
    let i = c.in_ok-x.x.instr in
    let o = operand_seen c.in_ok-x.x.operand in
    let r = has_row (resolved c.args.program.now) c.args.method c.args.place i o c.in_ok-x.ensures.instr c.in_ok-x.ensures.operand in
    sym (leads_make_none c.in-Leads.field-0 r.code i o) ∙ sym (r.made ∙ made_as r.code i o c.family_of.result _ c.family_of.ensures c.in-Leads.is)

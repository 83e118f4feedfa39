use Rattle.std.proofs.Common.{true, ap, refl, ◌∙◌}
use Rattle.bytecode_model.specs.Lists.{natural}
use Rattle.bytecode_model.specs.Rows as rows
use Rattle.opcodes.specs.Target.{cases_of}
use Rattle.program_tables.specs.Meanings.{operand_seen}
use Rattle.program_tables.specs.Resolved.{resolved}
use Rattle.bytecode_verifier.specs.declared.family.Family.TheVariants as family
use Rattle.bytecode_verifier.specs.declared.family.Call.TheVariants as call
use Rattle.bytecode_verifier.specs.Family.{value_row, array_row, field_row, call_row}
use Rattle.bytecode_verifier.proofs.OrdinaryLemmas.{value_ordinary, array_ordinary, field_ordinary, call_ordinary, named_formed, interface_formed}
use Rattle.bytecode_verifier.proofs.FormLemmas.{formed_by, formed_ordinary, formed_lookup}
use Rattle.bytecode_verifier.proofs.place.is_formed.Goals as goal

pub returns-in-TableSwitch : goal.returns-in-TableSwitch
returns-in-TableSwitch c =
    let P = resolved c.args.checking.now.program.now in
    let code = c.args.checking.now.code.now in
    let i = c.args.x.now.instr in
    let o = operand_seen c.args.x.now.operand in
    formed_by P code c.args.place i o c.family_of.result (_) (c.is_switch_formed.result) c.family_of.ensures (c.in-Leads.is ∙ ap family.Leads c.in-TableSwitch.is) (c.is_switch_formed.ensures P)

pub returns-in-LookupSwitch : goal.returns-in-LookupSwitch
returns-in-LookupSwitch c =
    let P = resolved c.args.checking.now.program.now in
    let code = c.args.checking.now.code.now in
    let i = c.args.x.now.instr in
    let o = operand_seen c.args.x.now.operand in
    formed_by P code c.args.place i o c.family_of.result (_) (c.is_switch_formed-in-LookupSwitch.result) c.family_of.ensures (c.in-Leads.is ∙ ap family.Leads c.in-LookupSwitch.is) (formed_lookup P code c.args.place i (natural i.second) (rows.Switch i.first (cases_of code i)) c.is_switch_formed-in-LookupSwitch.result (c.is_switch_formed-in-LookupSwitch.ensures P))

pub returns-in-Branch : goal.returns-in-Branch
returns-in-Branch c =
    let P = resolved c.args.checking.now.program.now in
    let code = c.args.checking.now.code.now in
    let i = c.args.x.now.instr in
    let o = operand_seen c.args.x.now.operand in
    formed_by P code c.args.place i o c.family_of.result (_) (true) c.family_of.ensures (c.in-Leads.is ∙ ap family.Leads c.in-Branch.is) (refl)

pub returns-in-Same : goal.returns-in-Same
returns-in-Same c =
    let P = resolved c.args.checking.now.program.now in
    let code = c.args.checking.now.code.now in
    let i = c.args.x.now.instr in
    let o = operand_seen c.args.x.now.operand in
    formed_by P code c.args.place i o c.family_of.result (_) (true) c.family_of.ensures (c.in-Leads.is ∙ ap family.Leads c.in-Same.is) (refl)

pub returns-in-IsNull : goal.returns-in-IsNull
returns-in-IsNull c =
    let P = resolved c.args.checking.now.program.now in
    let code = c.args.checking.now.code.now in
    let i = c.args.x.now.instr in
    let o = operand_seen c.args.x.now.operand in
    formed_by P code c.args.place i o c.family_of.result (_) (true) c.family_of.ensures (c.in-Leads.is ∙ ap family.Leads c.in-IsNull.is) (refl)

pub returns-in-Jump : goal.returns-in-Jump
returns-in-Jump c =
    let P = resolved c.args.checking.now.program.now in
    let code = c.args.checking.now.code.now in
    let i = c.args.x.now.instr in
    let o = operand_seen c.args.x.now.operand in
    formed_by P code c.args.place i o c.family_of.result (_) (true) c.family_of.ensures (c.in-Leads.is ∙ ap family.Leads c.in-Jump.is) (refl)

pub returns-in-Throw : goal.returns-in-Throw
returns-in-Throw c =
    let P = resolved c.args.checking.now.program.now in
    let code = c.args.checking.now.code.now in
    let i = c.args.x.now.instr in
    let o = operand_seen c.args.x.now.operand in
    formed_by P code c.args.place i o c.family_of.result (_) (true) c.family_of.ensures (c.in-Leads.is ∙ ap family.Leads c.in-Throw.is) (refl)

pub returns-in-Return : goal.returns-in-Return
returns-in-Return c =
    let P = resolved c.args.checking.now.program.now in
    let code = c.args.checking.now.code.now in
    let i = c.args.x.now.instr in
    let o = operand_seen c.args.x.now.operand in
    formed_by P code c.args.place i o c.family_of.result (_) (true) c.family_of.ensures (c.in-Leads.is ∙ ap family.Leads c.in-Return.is) (refl)

pub returns-in-Interface : goal.returns-in-Interface
returns-in-Interface c =
    let P = resolved c.args.checking.now.program.now in
    let code = c.args.checking.now.code.now in
    let i = c.args.x.now.instr in
    let o = operand_seen c.args.x.now.operand in
    formed_by P code c.args.place i o c.family_of.result _ (c.is_interface_call.result) c.family_of.ensures (c.in-Call.is ∙ ap family.Call c.in-Interface.is) (interface_formed P code c.args.place i o c.is_interface_call.result c.is_interface_call.ensures)

pub returns-in-Static : goal.returns-in-Static
returns-in-Static c =
    let P = resolved c.args.checking.now.program.now in
    let code = c.args.checking.now.code.now in
    let i = c.args.x.now.instr in
    let o = operand_seen c.args.x.now.operand in
    formed_by P code c.args.place i o c.family_of.result _ (true) c.family_of.ensures (c.in-Call.is ∙ ap family.Call c.in-Static.is) (formed_ordinary P code c.args.place i (call_row call.Static code i o) (call_ordinary call.Static code i o (λ e. absurd cc)))

pub returns-in-Special : goal.returns-in-Special
returns-in-Special c =
    let P = resolved c.args.checking.now.program.now in
    let code = c.args.checking.now.code.now in
    let i = c.args.x.now.instr in
    let o = operand_seen c.args.x.now.operand in
    formed_by P code c.args.place i o c.family_of.result _ (true) c.family_of.ensures (c.in-Call.is ∙ ap family.Call c.in-Special.is) (formed_ordinary P code c.args.place i (call_row call.Special code i o) (call_ordinary call.Special code i o (λ e. absurd cc)))

pub returns-in-Virtual : goal.returns-in-Virtual
returns-in-Virtual c =
    let P = resolved c.args.checking.now.program.now in
    let code = c.args.checking.now.code.now in
    let i = c.args.x.now.instr in
    let o = operand_seen c.args.x.now.operand in
    formed_by P code c.args.place i o c.family_of.result _ (true) c.family_of.ensures (c.in-Call.is ∙ ap family.Call c.in-Virtual.is) (formed_ordinary P code c.args.place i (call_row call.Virtual code i o) (call_ordinary call.Virtual code i o (λ e. absurd cc)))

pub returns-in-Unknown : goal.returns-in-Unknown
returns-in-Unknown c =
    let P = resolved c.args.checking.now.program.now in
    let code = c.args.checking.now.code.now in
    let i = c.args.x.now.instr in
    let o = operand_seen c.args.x.now.operand in
    formed_by P code c.args.place i o c.family_of.result _ (true) c.family_of.ensures (c.in-Unknown.is) (tt)

pub returns-in-Value : goal.returns-in-Value
returns-in-Value c =
    let P = resolved c.args.checking.now.program.now in
    let code = c.args.checking.now.code.now in
    let i = c.args.x.now.instr in
    let o = operand_seen c.args.x.now.operand in
    formed_by P code c.args.place i o c.family_of.result _ (true) c.family_of.ensures (c.in-Value.is) (formed_ordinary P code c.args.place i (value_row c.in-Value.field-0 code i o) (value_ordinary c.in-Value.field-0 code i o))

pub returns-in-Array : goal.returns-in-Array
returns-in-Array c =
    let P = resolved c.args.checking.now.program.now in
    let code = c.args.checking.now.code.now in
    let i = c.args.x.now.instr in
    let o = operand_seen c.args.x.now.operand in
    formed_by P code c.args.place i o c.family_of.result _ (true) c.family_of.ensures (c.in-Array.is) (formed_ordinary P code c.args.place i (array_row c.in-Array.field-0 code i o) (array_ordinary c.in-Array.field-0 code i o))

pub returns-in-Named : goal.returns-in-Named
returns-in-Named c =
    let P = resolved c.args.checking.now.program.now in
    let code = c.args.checking.now.code.now in
    let i = c.args.x.now.instr in
    let o = operand_seen c.args.x.now.operand in
    formed_by P code c.args.place i o c.family_of.result _ (true) c.family_of.ensures (c.in-Named.is) (named_formed P code c.args.place c.in-Named.field-0 i o)

pub returns-in-Field : goal.returns-in-Field
returns-in-Field c =
    let P = resolved c.args.checking.now.program.now in
    let code = c.args.checking.now.code.now in
    let i = c.args.x.now.instr in
    let o = operand_seen c.args.x.now.operand in
    formed_by P code c.args.place i o c.family_of.result _ (true) c.family_of.ensures (c.in-Field.is) (formed_ordinary P code c.args.place i (field_row c.in-Field.field-0 code i o) (field_ordinary c.in-Field.field-0 code i o))

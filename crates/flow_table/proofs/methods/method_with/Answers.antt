use Rattle.std.proofs.Common.{ℕ, List, sym, ap, ◌∙◌}
use Rattle.program_tables.specs.Resolved.{resolved}
use Rattle.flow_table.specs.Invokes.{calls_in}
use Rattle.flow_table.proofs.Making.{code_in, few_bytes, few_in, form, made}
use Rattle.flow_table.proofs.methods.method_with.Goals as goal

pub calls_of-requires-clause-code : goal.calls_of-requires-clause-code
calls_of-requires-clause-code c = code_in c.methods_stand_by_number.ensures c.args.program.now c.args.coded c.args.number c.args.code.now c.requires.code c.as_slice.result.now c.as_slice.ensures

pub calls_of-requires-clause-short : goal.calls_of-requires-clause-short
calls_of-requires-clause-short c =
    few_bytes c.methods_stand_by_number.ensures c.args.program.now c.args.coded c.args.number c.args.code.now c.requires.code c.methods_have_code.ensures c.is_resolved.ensures c.as_slice.result.now c.as_slice.ensures

pub calls_of-requires-clause-few : goal.calls_of-requires-clause-few
calls_of-requires-clause-few c =
    few_in c.methods_stand_by_number.ensures c.args.program.now c.args.coded c.args.number c.args.code.now c.requires.code c.requires.placed c.requires.lawful c.requires.coded c.as_slice.result.now c.as_slice.ensures

pub new-requires : goal.new-requires
new-requires c =
    let cs = c.args.program.now in
    let coded = c.args.coded in
    let m = c.args.number in
    let k = c.args.code.now in
    let bytes = c.in_ok-bytes.bytes.items in
    let same = c.in_ok-bytes.ensures.items ∙ c.as_slice-2.ensures in
    let calls = c.in_ok-calls.ensures ∙ ap (λ (xs : List ℕ). calls_in (resolved cs) coded m xs) (c.as_slice.ensures ∙ sym same) in
    form c.methods_stand_by_number.ensures cs coded m k c.requires.code c.args.name.items bytes c.args.ranges.items c.in_ok-calls.calls.items same c.requires.ranges calls c.control_stays_at_instructions.ensures
    c.starts_follow_one_another.ensures c.rows_are_of_their_kinds.ensures c.methods_have_code.ensures c.is_resolved.ensures c.requires.placed

pub returns : goal.returns
returns c =
    let cs = c.args.program.now in
    let coded = c.args.coded in
    let m = c.args.number in
    let k = c.args.code.now in
    let bytes = c.in_ok-bytes.bytes.items in
    let same = c.in_ok-bytes.ensures.items ∙ c.as_slice-2.ensures in
    let calls = c.in_ok-calls.ensures ∙ ap (λ (xs : List ℕ). calls_in (resolved cs) coded m xs) (c.as_slice.ensures ∙ sym same) in
    made c.methods_stand_by_number.ensures cs coded m k c.requires.code c.args.name.items bytes c.args.ranges.items c.in_ok-calls.calls.items same c.requires.ranges calls c.new.result c.requires.name c.new.ensures

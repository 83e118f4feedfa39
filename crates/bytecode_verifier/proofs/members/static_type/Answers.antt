use Rattle.std.proofs.Common.{sym, ap, ◌∙◌, ◌≤◌, length, arith}
use Rattle.std.proofs.lemmas.Option.{slice_get_past}
use Rattle.lists.specs.Lists.{onto}
use Rattle.program_tables.specs.Numbers.{static_fields}
use Rattle.program_tables.specs.Resolved.{declared_at}
use Rattle.bytecode_verifier.proofs.DeclaredLemmas.{statics_typed}
use Rattle.bytecode_verifier.proofs.members.static_type.Goals as goal

pub returns-then-index-static_count : goal.returns-then-index-static_count
returns-then-index-static_count c =
    let cs = c.args.program.now in
    c.field_type.ensures ∙ sym (statics_typed c.field_descriptors.ensures cs c.is_resolved.ensures c.args.index ∙ ap (λ o. onto o (declared_at cs)) c.static_field.ensures)

pub returns-else-index-static_count : goal.returns-else-index-static_count
returns-else-index-static_count c =
    let cs = c.args.program.now in
    let past : length (static_fields cs) ≤ c.args.index = (let few = c.static_count.ensures in let not = c.if-index-static_count.false in omega (arith, few, not)) in
    sym (statics_typed c.field_descriptors.ensures cs c.is_resolved.ensures c.args.index ∙ ap (λ o. onto o (declared_at cs)) (slice_get_past (static_fields cs) c.args.index past))

use Rattle.std.proofs.Common.{sym, ap, ◌∙◌, ◌≤◌, length, arith}
use Rattle.std.specs.Prelude.{slice_get}
use Rattle.std.proofs.lemmas.Option.{slice_get_past}
use Rattle.lists.specs.Lists.{onto}
use Rattle.program_tables.specs.Numbers.{instance_fields}
use Rattle.program_tables.specs.Resolved.{declared_at, declared_fields}
use Rattle.bytecode_verifier.proofs.DeclaredLemmas.{fields_typed, no_fields}
use Rattle.bytecode_verifier.proofs.members.instance_type.Goals.{else-class-class_count-via-then-class-class_count+else-index-instance_field_count, else-class-class_count-via-else-class-class_count}
use Rattle.bytecode_verifier.proofs.members.instance_type.Goals as goal

pub returns-then-index-instance_field_count : goal.returns-then-index-instance_field_count
returns-then-index-instance_field_count c =
    let cs = c.args.program.now in
    c.field_type.ensures ∙ sym (fields_typed c.field_descriptors.ensures cs c.is_resolved.ensures c.args.class c.args.index ∙ ap (λ o. onto o (declared_at cs)) c.instance_field.ensures)

pub returns-else-class-class_count : goal.returns-else-class-class_count
returns-else-class-class_count c =
    let cs = c.args.program.now in
    elim c.else-class-class_count.branch [
      | else-class-class_count-via-then-class-class_count+else-index-instance_field_count w ↦
          let past : length (instance_fields cs c.args.class) ≤ c.args.index = (let few = w.instance_field_count.ensures in let not = w.if-index-instance_field_count.false in omega (arith, few, not)) in
          sym (fields_typed c.field_descriptors.ensures cs c.is_resolved.ensures c.args.class c.args.index ∙ ap (λ o. onto o (declared_at cs)) (slice_get_past (instance_fields cs c.args.class) c.args.index past))
      | else-class-class_count-via-else-class-class_count w ↦
          let past : length cs ≤ c.args.class = (let few = c.class_count.ensures in let not = w.if-class-class_count.false in omega (arith, few, not)) in
          sym (ap (λ fs. slice_get (declared_fields cs fs) c.args.index) (no_fields cs c.args.class past))
    ]

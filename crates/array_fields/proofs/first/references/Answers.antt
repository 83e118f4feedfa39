use Rattle.program_tables.specs.Numbers.{instance_fields}
use Rattle.program_tables.specs.Resolved.{declared_at}
use Rattle.array_fields.specs.First.{is_reference}
use Rattle.array_fields.proofs.Starting.{kept_more}
use Rattle.array_fields.proofs.first.references.Goals as goal

pub loop-index-preserved : goal.loop-index-preserved
loop-index-preserved c =
    let cs = c.args.program.now in
    kept_more is_reference (declared_at cs) (instance_fields cs c.args.class) c.loop-index.index c.instance_field.result c.loop-index.references.items c.add_reference.new.references.items c.instance_field.ensures c.loop-index.invariant
    c.in_ok-add_reference.ensures

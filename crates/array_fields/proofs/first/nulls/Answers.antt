use Rattle.program_tables.specs.Numbers.{static_fields}
use Rattle.program_tables.specs.Resolved.{first_value}
use Rattle.array_fields.specs.First.{is_null}
use Rattle.array_fields.proofs.Starting.{kept_more}
use Rattle.array_fields.proofs.first.nulls.Goals as goal

pub loop-index-preserved : goal.loop-index-preserved
loop-index-preserved c =
    let cs = c.args.program.now in
    kept_more is_null (first_value cs) (static_fields cs) c.loop-index.index c.static_field.result c.loop-index.nulls.items c.add_null.new.nulls.items c.static_field.ensures c.loop-index.invariant c.in_ok-add_null.ensures

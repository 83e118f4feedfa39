use Rattle.resolved_program.proofs.MeaningLemmas.{field_told}
use Rattle.resolved_program.proofs.entries.field_meaning.Goals as goal

pub returns-in-Some : goal.returns-in-Some
returns-in-Some c = λ index.
    field_told c.args.tables.now.classes.now c.args.current c.args.class.now c.args.owner c.args.member index c.in-Some.found.0 c.in-Some.found.1 c.field_found.result _ _
    c.in-Some.is c.field_found.ensures c.field_operand-operand.ensures c.is_guarded_field.ensures

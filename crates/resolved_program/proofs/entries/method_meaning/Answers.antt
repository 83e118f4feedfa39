use Rattle.resolved_program.proofs.MeaningLemmas.{method_told}
use Rattle.resolved_program.proofs.entries.method_meaning.Goals as goal

pub returns-in-Some : goal.returns-in-Some
returns-in-Some c = λ index.
    method_told c.args.tables.now.classes.now c.args.current c.args.class.now c.args.owner c.args.member index c.in-Some.found.0 c.in-Some.found.1 c.method_found.result _ _ _ _
    c.in-Some.is c.method_found.ensures c.method_operand.ensures c.special-special.ensures c.method_operand-in-Some.ensures c.is_guarded_method.ensures

use Rattle.std.proofs.Common.{ap, arith, sym, ◌∙◌}
use Rattle.std.specs.Option.{option_copied}
use Rattle.jopizer.proofs.MethodsLemmas.Ended.{all_fit, none_past}
use Rattle.jopizer.proofs.methods.fitting.first_too_long.Goals as goal

pub returns-in_default : goal.returns-in_default
returns-in_default c =
    all_fit c.methods_stand_by_number.ensures c.args.program.now c.args.blocks c.args.block_words c.loop-number.number c.loop-number.invariant (sym c.code.ensures.code ∙ ap option_copied c.in_default.is)

pub returns : goal.returns
returns c =
    all_fit c.methods_stand_by_number.ensures c.args.program.now c.args.blocks c.args.block_words c.loop-number.number c.loop-number.invariant
    (none_past c.args.program.now c.loop-number.number (omega (arith, c.loop-number-test.false, c.method_count-number-end.ensures)))

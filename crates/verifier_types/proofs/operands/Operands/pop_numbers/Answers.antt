use Rattle.std.proofs.Common.{sym, ◌∙◌}
use Rattle.verifier_types.specs.Frame.{operands_seen}
use Rattle.verifier_types.proofs.OperandLemmas.{no_number}
use Rattle.verifier_types.proofs.operands.Operands.pop_numbers.Goals as goal

pub returns-in-None : goal.returns-in-None
returns-in-None c =
    sym (sym c.loop-number.invariant ∙ no_number c.args.numbers.now c.loop-number.number-index (operands_seen c.loop-number.self) c.loop-number-test.true (sym c.in-None.ensures))

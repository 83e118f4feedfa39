use Rattle.std.proofs.Common.{arith}
use Rattle.verifier_types.specs.Seen.{type_seen}
use Rattle.verifier_types.proofs.OperandLemmas.{one_or_two, words_of_stack}
use Rattle.verifier_types.proofs.operands.Operands.push.Goals as goal

pub overflow_add-self : goal.overflow_add-self
overflow_add-self c = omega (arith, words_of_stack c.args.self.now.items.items, c.args.self.now.counted, c.words.ensures, one_or_two (type_seen c.args.item), c.in_ok-push.ensures.len)

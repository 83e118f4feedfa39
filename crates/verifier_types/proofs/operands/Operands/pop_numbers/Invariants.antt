use Rattle.std.proofs.Common.{◌≡◌, map, drop}
use Rattle.verifier_types.specs.Frame.{operands_seen}
use Rattle.verifier_types.specs.Seen.{number_seen}
use Rattle.verifier_types.specs.Taken.{numbers_taken}
use Rattle.verifier_types.proofs.operands.Operands.pop_numbers.Given as goal

abbrev pub invariant-loop-number : goal.invariant-loop-number
invariant-loop-number l =
    numbers_taken (map number_seen (drop l.number-index l.numbers)) (operands_seen l.self) ≡ numbers_taken (map number_seen l.numbers) (operands_seen l.initial.self)

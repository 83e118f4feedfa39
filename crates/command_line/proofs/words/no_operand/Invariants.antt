use Rattle.std.proofs.Common.{◌≡◌, ◌+◌, drop}
use Rattle.command_line.specs.Command.{texts, exactly_at}
use Rattle.command_line.proofs.words.no_operand.Given as goal

abbrev pub invariant-loop-word : goal.invariant-loop-word
invariant-loop-word l = record {
  same : exactly_at l.at l.left (texts (drop l.word-index l.words)) ≡ exactly_at l.k l.count (texts l.words);
  at : l.at ≡ l.k + l.word-index;
  left : l.left + l.word-index ≡ l.count;
}

use Rattle.std.proofs.Common.{◌≡◌, ◌+◌, ◌≤◌, drop}
use Rattle.command_line.specs.Command.{texts, at_least_at}
use Rattle.command_line.proofs.words.too_few.Given as goal

abbrev pub invariant-loop-word : goal.invariant-loop-word
invariant-loop-word l = record {
  same : at_least_at l.at l.left (texts (drop l.word-index l.words)) ≡ at_least_at l.k l.count (texts l.words);
  at : l.at ≡ l.k + l.word-index;
  left : l.count ≤ l.left + l.word-index;
}

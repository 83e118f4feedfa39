use Rattle.std.proofs.Common.{◌≡◌, ◌+◌, drop}
use Rattle.command_line.specs.Command.{texts, at_most_at}
use Rattle.command_line.proofs.words.past_most.Given as goal

abbrev pub invariant-loop-word : goal.invariant-loop-word
invariant-loop-word l = record {
  same : at_most_at l.at l.left (texts (drop l.word-index l.words)) ≡ at_most_at l.k l.count (texts l.words);
  at : l.at ≡ l.k + l.word-index;
  left : l.left + l.word-index ≡ l.count;
}

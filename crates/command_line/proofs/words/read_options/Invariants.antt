use Rattle.std.proofs.Common.{◌≡◌, ◌+◌, None, length}
use Rattle.command_line.specs.Command.{texts, none_given, words_at}
use Rattle.command_line.specs.Given.{values_of}
use Rattle.command_line.proofs.words.read_options.Given as goal

abbrev pub invariant-loop-rest : goal.invariant-loop-rest
invariant-loop-rest l = record {
  same : words_at None l.verb l.k (values_of l.given) (texts l.rest) ≡ words_at None l.verb 1 none_given (texts l.words);
  count : l.k + length l.rest ≡ 1 + length l.words;
}

abbrev pub decreases-loop-rest : goal.decreases-loop-rest
decreases-loop-rest l = length l.rest

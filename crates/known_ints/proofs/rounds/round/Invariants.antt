use Rattle.known_ints.specs.Rounds.{IsRound}
use Rattle.known_ints.proofs.rounds.round.Given as goal

abbrev pub invariant-loop-line : goal.invariant-loop-line
invariant-loop-line l = IsRound l.code l.lines l.line-index l.initial.found l.found l.initial.answers.items l.answers.items l.grown

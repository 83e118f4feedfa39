use Rattle.known_ints.specs.Rounds.{AreSized, IsFinding, left}
use Rattle.known_ints.proofs.rounds.known_in.Given as goal

abbrev pub invariant-loop-answers : goal.invariant-loop-answers
invariant-loop-answers l = AreSized l.code l.found l.answers.items × IsFinding l.code l.found l.answers.items

abbrev pub decreases-loop-answers : goal.decreases-loop-answers
decreases-loop-answers l = left l.found

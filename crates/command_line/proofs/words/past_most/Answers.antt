use Rattle.std.proofs.Common.{◌∙◌, sym, eq-eqb}
use Rattle.command_line.proofs.WordLemmas.{past_most_at, empty_most_at}
use Rattle.command_line.proofs.words.past_most.Goals.{then-left-eq0-via-then-left-eq0, then-left-eq0-via-else-left-eq0+then-is_empty}
use Rattle.command_line.proofs.words.past_most.Goals as goal

pub returns-then-left-eq0 : goal.returns-then-left-eq0
returns-then-left-eq0 c = elim c.then-left-eq0.branch [
  | then-left-eq0-via-then-left-eq0 w ↦
      past_most_at c.args.words.now c.loop-word.word-index c.loop-word.at c.loop-word.left c.loop-word-test.true (eq-eqb c.loop-word.left 0 w.if-left-eq0.true) ∙ c.loop-word.invariant.same
  | then-left-eq0-via-else-left-eq0+then-is_empty w ↦
      empty_most_at c.args.words.now c.loop-word.word-index c.loop-word.at c.loop-word.left _ c.loop-word-test.true (sym w.is_empty.ensures ∙ w.if-is_empty.true) ∙ c.loop-word.invariant.same
]

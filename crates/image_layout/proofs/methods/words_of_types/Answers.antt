use Rattle.std.proofs.Common.{◌+◌, ℕ, ap, ◌∙◌}
use Rattle.image_layout.proofs.MethodLemmas.{words_more}
use Rattle.image_layout.proofs.methods.words_of_types.Goals as goal

pub loop-declared-preserved : goal.loop-declared-preserved
loop-declared-preserved c =
    words_more c.args.types.now c.loop-declared.declared-index _ c.loop-declared.words _ c.loop-declared-test.true c.loop-declared.invariant
    (c.in_ok-words.ensures ∙ ap (λ (n : ℕ). c.loop-declared.words + n) c.declared_words.ensures)

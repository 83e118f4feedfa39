use Rattle.std.proofs.Common.{List, map, ap, ◌∙◌}
use Rattle.std.specs.Prelude.{sum_by}
use Rattle.image_facts.specs.Words.{declared_words}
use Rattle.program_tables.specs.declared.operand.Declared.{Declared}
use Rattle.program_tables.specs.Meanings.{declared_seen}
use Rattle.image_layout.proofs.MethodLemmas.{without_receiver}
use Rattle.image_layout.proofs.methods.argument_words.Goals as goal

pub returns-else-shape : goal.returns-else-shape
returns-else-shape c =
    let words = c.in_ok-words.ensures ∙ ap (λ (ds : List Declared). sum_by declared_words (map declared_seen ds)) c.as_slice.ensures in
    λ k at. without_receiver c.args.program.now c.args.method c.shape-shape.result.now c.in_ok-words.words c.shape-shape.ensures words c.if-shape.false k at

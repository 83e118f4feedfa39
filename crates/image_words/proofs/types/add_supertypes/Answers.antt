use Rattle.std.proofs.Common.{◌++◌, ◌∷◌, [], ℕ, ap, ◌∙◌}
use Rattle.program_tables.specs.Tables.{kind_seen}
use Rattle.image_words.specs.Regions.{supertype_word}
use Rattle.image_builder.proofs.ListLemmas.{range_more}
use Rattle.image_words.proofs.types.add_supertypes.Goals as goal

pub loop-word-preserved : goal.loop-word-preserved
loop-word-preserved c =
    let old = c.loop-word.words.items in
    range_more (supertype_word c.args.classes.now (kind_seen c.args.kind)) c.loop-word.word c.args.words.now.items old c.push.new.self.items c.loop-word.invariant
    (c.in_ok-push.ensures.items ∙ ap (λ (n : ℕ). old ++ n ∷ []) c.supertype_bits.ensures)

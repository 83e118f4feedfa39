use Rattle.std.proofs.Common.{sym, ◌∙◌}
use Rattle.image_words.proofs.PlaceLemmas.{words_end}
use Rattle.image_layout.proofs.LimitLemmas.{words_counted}
use Rattle.image_layout.proofs.limits.count_words.Goals as goal

pub returns : goal.returns
returns c =
    let cs = c.args.program.now in
    c.from.ensures
    ∙ (words_end cs c.args.outline.now.objects c.requires.objects
    ∙ sym (words_counted c.packed_has_words.ensures c.image_words_grow.ensures.end c.image_words_lie.ensures.words c.resolved_programs_are_lawful.ensures cs c.is_resolved.ensures))

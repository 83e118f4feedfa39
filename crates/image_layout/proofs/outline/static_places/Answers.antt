use Rattle.std.proofs.Common.{map, refl, ◌∙◌}
use Rattle.image_facts.specs.Words.{declared_words}
use Rattle.image_words.specs.Layout.{front_size}
use Rattle.program_tables.specs.Resolved.{resolved}
use Rattle.image_layout.proofs.LayoutLemmas.{run_made}
use Rattle.image_layout.proofs.outline.static_places.Goals as goal

pub returns : goal.returns
returns c =
    run_made c.run_from.result front_size front_size c.deref.result.now (map declared_words (resolved c.args.program.now).statics) refl (c.deref.ensures.value ∙ c.in_ok-sizes.ensures) c.run_from.ensures

use Rattle.std.proofs.Common.{map, refl, ◌∙◌}
use Rattle.image_facts.specs.Words.{declared_words}
use Rattle.program_tables.specs.Resolved.{resolved}
use Rattle.image_layout.proofs.LayoutLemmas.{run_made}
use Rattle.image_layout.proofs.sizes.instance_of.Goals as goal

pub returns : goal.returns
returns c =
    run_made c.run_from.result 1 1 c.deref.result.now (map declared_words ((resolved c.args.program.now).fields c.args.class)) refl (c.deref.ensures.value ∙ c.in_ok-sizes.ensures) c.run_from.ensures

use Rattle.std.proofs.Common.{◌≡◌, None, rules, ap, sym, ◌∙◌}
use Rattle.descriptors.specs.Parsing.{behind, with_dimensions}
use Rattle.descriptors.proofs.TypeLemmas.{type_shut}
use Rattle.descriptors.proofs.descriptor.type_at.Goals as goal

pub returns : goal.returns
returns c =
    let shut : None ≡ behind 91 c.loop-after.rest.now = search rules in
    sym c.loop-after.invariant.0 ∙ (type_shut c.loop-after.dimensions c.loop-after.rest.now shut ∙ ap (with_dimensions c.loop-after.dimensions) c.in_ok-element.ensures)

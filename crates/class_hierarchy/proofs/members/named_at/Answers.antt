use Rattle.std.proofs.Common.{refl, ap, ◌∙◌}
use Rattle.std.specs.Prelude.{slice_get}
use Rattle.class_lookup.specs.Lookup.{Place}
use Rattle.class_hierarchy.proofs.Naming.{named_is}
use Rattle.class_hierarchy.proofs.members.named_at.Goals as goal

pub returns : goal.returns
returns c =
    let cs = c.args.classes.now in
    let own = ap (λ (p : Place). slice_get cs p.0) c.place.view_is in
    (named_is cs c.args.place c.in_ok-method.method.now c.symbol.result c.symbol-2.result c.in_ok-method.ensures (λ k at. c.symbol.ensures k (own ∙ at)) (λ k at. c.symbol-2.ensures k (own ∙ at)), refl)

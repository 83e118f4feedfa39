use Rattle.std.proofs.Common.{◌++◌, ◌∷◌, [], ℕ, ap, ◌∙◌}
use Rattle.image_words.specs.Layout.{type_place}
use Rattle.image_builder.proofs.ListLemmas.{range_more}
use Rattle.image_layout.proofs.front.add_type_places.Goals as goal

pub loop-number-preserved : goal.loop-number-preserved
loop-number-preserved c =
    λ cs o.
    let old = c.loop-number.words.items in
    range_more (type_place cs) c.loop-number.number c.args.words.now.items old c.push.new.self.items (c.loop-number.invariant cs o)
    (c.in_ok-push.ensures.items ∙ ap (λ (n : ℕ). old ++ n ∷ []) (c.in_ok-type_place.ensures cs o))

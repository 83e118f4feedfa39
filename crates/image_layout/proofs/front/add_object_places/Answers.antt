use Rattle.std.proofs.Common.{◌++◌, ◌∷◌, [], ℕ, ap, ◌∙◌}
use Rattle.image_words.specs.Layout.{outline_of}
use Rattle.image_words.specs.Regions.{first_place}
use Rattle.image_builder.proofs.ListLemmas.{range_more}
use Rattle.image_layout.proofs.front.add_object_places.Goals as goal

pub loop-object-preserved : goal.loop-object-preserved
loop-object-preserved c =
    λ cs o.
    let old = c.loop-object.words.items in
    range_more (first_place cs (outline_of cs)) c.loop-object.object c.args.words.now.items old c.push.new.self.items (c.loop-object.invariant cs o)
    (c.in_ok-push.ensures.items ∙ ap (λ (n : ℕ). old ++ n ∷ []) (c.object_place.ensures cs o))

use Rattle.std.proofs.Common.{◌++◌, List, ℕ, map, append_assoc, ap, ◌∙◌}
use Rattle.std.specs.List.{range_with_len}
use Rattle.image_words.specs.Layout.{type_place, outline_of}
use Rattle.image_words.specs.Regions.{first_place}
use Rattle.image_layout.proofs.front.add_lists.Goals as goal

pub returns : goal.returns
returns c =
    let cs = c.args.program.now in
    let types = map (type_place cs) (range_with_len 0 8) in
    let objects = map (first_place cs (outline_of cs)) (range_with_len 0 9) in
    c.in_ok-add_object_places.ensures cs c.requires
    ∙ (ap (λ (ws : List ℕ). ws ++ objects) (c.in_ok-add_type_places.ensures cs c.requires) ∙ append_assoc c.args.words.now.items types objects)

use Rattle.std.proofs.Common.{◌++◌, ℕ, List, map, ap, ◌∙◌}
use Rattle.std.specs.List.{range_with_len}
use Rattle.image_words.specs.Layout.{type_place}
use Rattle.image_layout.proofs.layout.type_places.Goals as goal

pub returns : goal.returns
returns c =
    let cs = c.args.program.now in
    let many = c.type_count.result in
    c.in_ok-add_type_places.ensures cs c.requires
    ∙ (ap (λ (ws : List ℕ). ws ++ map (type_place cs) (range_with_len 0 many)) c.new-places.ensures.items ∙ ap (λ (n : ℕ). map (type_place cs) (range_with_len 0 n)) c.type_count.ensures)

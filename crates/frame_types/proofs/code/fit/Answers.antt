use Rattle.std.proofs.Common.{rules, ◌≡◌, ◌&&◌, ◌∙◌, true, map, sym, ap}
use Rattle.std.specs.Prelude.{nat_le}
use Rattle.std.specs.List.{list_all}
use Rattle.frame_types.specs.Types.{stack_words, names_new}
use Rattle.frame_types.specs.Extents.{shape}
use Rattle.frame_types.proofs.ExtentLemmas.{all_shapes}
use Rattle.frame_types.proofs.code.fit.Goals as goal

pub returns-then-have_room : goal.returns-then-have_room
returns-then-have_room c =
    let code = c.args.placed.code.now in
    let ts = c.args.types.now in
    let room : nat_le (stack_words (map shape ts)) c.args.most ≡ true = search rules in
    c.all_name_new.ensures ∙ (sym (all_shapes code ts) ∙ ap (λ b. b && list_all (names_new code) (map shape ts)) (sym room))

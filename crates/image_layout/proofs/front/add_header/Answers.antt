use Rattle.std.proofs.Common.{◌++◌, List, ℕ, ap, ◌∙◌}
use Rattle.image_facts.specs.Places.{pool_of}
use Rattle.program_tables.specs.Resolved.{resolved}
use Rattle.image_words.specs.Layout.{method_place, outline_of}
use Rattle.image_words.proofs.PlaceLemmas.{words_end}
use Rattle.image_layout.proofs.HeaderLemmas.{header_same}
use Rattle.image_layout.proofs.front.add_header.Goals as goal

pub returns : goal.returns
returns c =
    let cs = c.args.program.now in
    let boot = c.boot_method-boot.ensures in
    let place = c.method_place-place.ensures cs c.requires ∙ ap (method_place cs) boot in
    let pool = c.pool_of-pool.ensures ∙ ap (pool_of (resolved cs) (outline_of cs)) boot in
    let all = words_end cs c.args.outline.now.objects c.requires.objects in
    c.in_ok-extend_from_slice.ensures.items
    ∙ ap (λ (ws : List ℕ). c.args.words.now.items ++ ws) (header_same cs c.method_place-place.result c.pool_of-pool.result c.type_count-types.result c.args.outline.now.objects.end place pool c.type_count-types.ensures all)

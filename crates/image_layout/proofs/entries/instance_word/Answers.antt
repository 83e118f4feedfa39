use Rattle.std.proofs.Common.{ℕ, Option, ap, ◌∙◌}
use Rattle.std.specs.Option.{option_map_or}
use Rattle.image_facts.specs.Says.{field_place}
use Rattle.program_tables.specs.Resolved.{resolved}
use Rattle.image_layout.proofs.entries.instance_word.Goals as goal

pub returns-in-Some : goal.returns-in-Some
returns-in-Some c =
    let P = resolved c.args.program.now in
    c.field_place.ensures c.args.program.now c.requires
    ∙ (ap (λ (q : ℕ × ℕ). field_place P q.0 c.in-Some.index) c.field.view_is ∙ ap (λ (o : Option ℕ). option_map_or (field_place P c.args.field.0) o 0) c.in-Some.ensures)

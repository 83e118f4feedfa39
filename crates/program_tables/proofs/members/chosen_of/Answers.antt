use Rattle.std.proofs.Common.{◌++◌, List, ap, ◌∙◌}
use Rattle.class_lookup.specs.Lookup.{Place}
use Rattle.program_tables.specs.Members.{chosen}
use Rattle.program_tables.proofs.members.chosen_of.Goals as goal

pub returns : goal.returns
returns c =
    c.in_ok-made.ensures ∙ (c.in_ok-add_members.ensures ∙ ap (λ (ps : List Place). ps ++ chosen c.args.which c.args.classes.now) c.new-places.ensures.items)

use Rattle.std.proofs.Common.{◌++◌, List, ap, ◌∙◌}
use Rattle.class_lookup.specs.Lookup.{Place}
use Rattle.program_tables.specs.declared.members.Which.TheVariants.{MethodWithCode, OtherMethod}
use Rattle.program_tables.specs.Members.{chosen}
use Rattle.program_tables.proofs.MemberLemmas.{methods_are}
use Rattle.program_tables.proofs.members.methods_of.Goals as goal

pub returns : goal.returns
returns c =
    let cs = c.args.classes.now in
    c.in_ok-made.ensures
    ∙ (c.in_ok-add_members-2.ensures
    ∙ (ap (λ (ps : List Place). ps ++ chosen OtherMethod cs) (c.in_ok-add_members.ensures ∙ ap (λ (ps : List Place). ps ++ chosen MethodWithCode cs) c.new-places.ensures.items) ∙ methods_are cs))

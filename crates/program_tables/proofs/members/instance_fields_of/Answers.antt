use Rattle.std.proofs.Common.{◌++◌, List, ap, ◌∙◌}
use Rattle.class_lookup.specs.Lookup.{Place}
use Rattle.program_tables.specs.declared.members.Which.TheVariants.{InstanceField}
use Rattle.program_tables.specs.Members.{own_members}
use Rattle.program_tables.proofs.MemberLemmas.{own_instances}
use Rattle.program_tables.proofs.members.instance_fields_of.Goals as goal

pub returns : goal.returns
returns c =
    let k = c.class.result.now in
    c.in_ok-made.ensures
    ∙ (c.in_ok-add_own.ensures
    ∙ (ap (λ (ps : List Place). ps ++ own_members InstanceField c.args.class 0 k.fields) c.new-places.ensures.items ∙ own_instances c.args.classes.now c.args.class k c.class.ensures))

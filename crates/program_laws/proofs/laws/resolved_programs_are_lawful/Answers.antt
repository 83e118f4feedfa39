use Rattle.program_laws.proofs.Rows.{lawful}
use Rattle.program_laws.proofs.laws.resolved_programs_are_lawful.Goals as goal

pub returns : goal.returns
returns c = lawful (record {
  methods = record {
    order = record { hierarchy = c.classes_extend_what_is_above.ensures; superclasses = c.superclasses_stand_above.ensures };
    signatures = c.methods_have_signatures.ensures;
    needs = c.overriding_is_decided.ensures.needs;
    selection = c.the_first_method_is_selected.ensures;
  };
  comparisons = c.equals_are_compared.ensures;
  lookups = c.methods_are_looked_up.ensures;
  found_fields = c.members_are_found_above.ensures.fields;
  found_methods = c.members_are_found_above.ensures.methods;
}) c.methods_have_code.ensures c.fields_have_constants.ensures c.field_descriptors.ensures c.method_descriptors.ensures

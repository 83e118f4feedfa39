use Rattle.image_laws.proofs.Selected.{virtual_calls, interface_calls}
use Rattle.image_laws.proofs.laws.selected_calls_are_said.Goals as goal

pub returns-clause-virtual_calls : goal.returns-clause-virtual_calls
returns-clause-virtual_calls c =
    virtual_calls (record {
      methods = record {
        order = record { hierarchy = c.classes_extend_what_is_above.ensures; superclasses = c.superclasses_stand_above.ensures };
        signatures = c.methods_have_signatures.ensures;
        needs = c.overriding_is_decided.ensures.needs;
        selection = c.the_first_method_is_selected.ensures;
      };
      comparisons = c.equals_are_compared.ensures;
      lookups = c.methods_are_looked_up.ensures;
      found_fields = c.members_are_found_above.ensures.fields;
      found_methods = c.members_are_found_above.ensures.methods;
    }) c.packed_has_words.ensures c.image_words_lie.ensures.words c.calls_have_slots.ensures c.tables_have_selected_methods.ensures.slots

pub returns-clause-interface_calls : goal.returns-clause-interface_calls
returns-clause-interface_calls c =
    interface_calls (record {
      methods = record {
        order = record { hierarchy = c.classes_extend_what_is_above.ensures; superclasses = c.superclasses_stand_above.ensures };
        signatures = c.methods_have_signatures.ensures;
        needs = c.overriding_is_decided.ensures.needs;
        selection = c.the_first_method_is_selected.ensures;
      };
      comparisons = c.equals_are_compared.ensures;
      lookups = c.methods_are_looked_up.ensures;
      found_fields = c.members_are_found_above.ensures.fields;
      found_methods = c.members_are_found_above.ensures.methods;
    }) c.packed_has_words.ensures c.image_words_lie.ensures.words c.tables_have_selected_methods.ensures.interfaces

use Rattle.image_laws.proofs.Means.{operands}
use Rattle.image_laws.proofs.laws.operands_are_said.Goals as goal

pub returns : goal.returns
returns c =
    operands (record {
      classes = record {
        methods = record {
          order = record { hierarchy = c.classes_extend_what_is_above.ensures; superclasses = c.superclasses_stand_above.ensures };
          signatures = c.methods_have_signatures.ensures;
          needs = c.overriding_is_decided.ensures.needs;
          selection = c.the_first_method_is_selected.ensures;
        };
        comparisons = c.equals_are_compared.ensures;
        lookups = c.methods_are_looked_up.ensures;
        found_fields = c.members_are_found_above.ensures.fields;
        found_methods = c.members_are_found_above.ensures.methods;
      };
      read = c.field_descriptors.ensures;
      code = c.methods_have_code.ensures;
      lie = c.image_words_lie.ensures.entries;
      named = c.entries_have_meanings.ensures.named;
      ints = c.entries_have_meanings.ensures.numbers;
      strings = c.entries_have_meanings.ensures.strings;
      types = c.entries_have_meanings.ensures.classes;
      instances = c.entries_have_meanings.ensures.instance_fields;
      statics = c.entries_have_meanings.ensures.static_fields;
      virtuals = c.selected_calls_are_said.ensures.virtual_calls;
      interfaces = c.selected_calls_are_said.ensures.interface_calls;
    })

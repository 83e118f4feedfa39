use Rattle.image_laws.proofs.BootPool.{boot_last, boot_pool}
use Rattle.image_laws.proofs.InterfaceEntries.{taken, words, entry_word}
use Rattle.image_laws.proofs.laws.interface_entries_begin_with_zero.Goals as goal

pub returns-clause-last : goal.returns-clause-last
returns-clause-last c = boot_last

pub returns-clause-boot : goal.returns-clause-boot
returns-clause-boot c = boot_pool

pub returns-clause-taken : goal.returns-clause-taken
returns-clause-taken c =
    taken boot_pool (record {
      methods = record {
        order = record { hierarchy = c.classes_extend_what_is_above.ensures; superclasses = c.superclasses_stand_above.ensures };
        signatures = c.methods_have_signatures.ensures;
        needs = c.overriding_is_decided.ensures.needs;
        selection = c.the_first_method_is_selected.ensures;
      };
      comparisons = c.equals_are_compared.ensures;
      lookups = c.methods_are_looked_up.ensures;
      found_fields = c.members_are_found_above.ensures.fields;
      found_methods = c.members_are_found_above.ensures.methods;
    }) c.methods_have_code.ensures

pub returns-clause-words : goal.returns-clause-words
returns-clause-words c = words (returns-clause-taken c)

pub returns-clause-image : goal.returns-clause-image
returns-clause-image c = entry_word (returns-clause-words c)

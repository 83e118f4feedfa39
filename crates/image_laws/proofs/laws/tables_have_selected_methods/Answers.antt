use Rattle.image_laws.proofs.Said.{slots_said, numbers_said}
use Rattle.image_laws.proofs.laws.tables_have_selected_methods.Goals as goal

pub returns-clause-slots : goal.returns-clause-slots
returns-clause-slots c = slots_said (record { hierarchy = c.classes_extend_what_is_above.ensures; superclasses = c.superclasses_stand_above.ensures }) c.calls_have_slots.ensures c.members_are_found_above.ensures.methods

pub returns-clause-interfaces : goal.returns-clause-interfaces
returns-clause-interfaces c = numbers_said (record { hierarchy = c.classes_extend_what_is_above.ensures; superclasses = c.superclasses_stand_above.ensures }) c.the_first_method_is_selected.ensures c.methods_have_code.ensures

use Rattle.image_laws.proofs.Calls.{calls}
use Rattle.image_laws.proofs.laws.calls_have_slots.Goals as goal

pub returns : goal.returns
returns c = calls (record { hierarchy = c.classes_extend_what_is_above.ensures; superclasses = c.superclasses_stand_above.ensures }) c.members_are_found_above.ensures.methods c.methods_are_looked_up.ensures

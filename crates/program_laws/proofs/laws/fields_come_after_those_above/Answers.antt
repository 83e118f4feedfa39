use Rattle.program_laws.proofs.Fields.{fields}
use Rattle.program_laws.proofs.laws.fields_come_after_those_above.Goals as goal

pub returns : goal.returns
returns c = fields (record { hierarchy = c.classes_extend_what_is_above.ensures; superclasses = c.superclasses_stand_above.ensures })

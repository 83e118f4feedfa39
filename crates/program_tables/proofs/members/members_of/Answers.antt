use Rattle.std.proofs.Common.{◌∙◌}
use Rattle.program_tables.proofs.MemberLemmas.{fields_are, statics_are}
use Rattle.program_tables.proofs.members.members_of.Goals as goal

pub returns-clause-fields : goal.returns-clause-fields
returns-clause-fields c = c.in_ok-fields.ensures ∙ fields_are c.args.classes.now

pub returns-clause-statics : goal.returns-clause-statics
returns-clause-statics c = c.in_ok-statics.ensures ∙ statics_are c.args.classes.now

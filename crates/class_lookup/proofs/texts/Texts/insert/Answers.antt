use Rattle.std.proofs.Common.{sym}
use Rattle.class_lookup.proofs.Numbering.{with_old}
use Rattle.class_lookup.proofs.texts.Texts.insert.Goals as goal

pub returns-in-Some-clause-texts : goal.returns-in-Some-clause-texts
returns-in-Some-clause-texts c = sym (with_old c.args.self.now c.args.text.now c.in-Some.number c.in-Some.ensures)

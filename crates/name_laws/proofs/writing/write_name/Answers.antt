use Rattle.std.proofs.Common.{sym, ap, ◌∙◌}
use Rattle.name_laws.specs.Written.{stands}
use Rattle.name_laws.proofs.Escapes.{name_stands}
use Rattle.name_laws.proofs.writing.write_name.Goals as goal

pub returns-then-stands : goal.returns-then-stands
returns-then-stands c = sym (name_stands c.args.name.items (ap stands (sym c.deref.ensures.value) ∙ sym c.stands.ensures ∙ c.if-stands.true))

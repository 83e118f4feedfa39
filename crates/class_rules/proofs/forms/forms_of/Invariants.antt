use Rattle.std.proofs.Common.{◌≡◌, take, map}
use Rattle.class_rules.specs.Forms.{entry_form}
use Rattle.class_rules.proofs.forms.forms_of.Given as goal

abbrev pub invariant-loop-entry : goal.invariant-loop-entry
invariant-loop-entry l = l.forms.items ≡ map entry_form (take l.entry-index l.entries)

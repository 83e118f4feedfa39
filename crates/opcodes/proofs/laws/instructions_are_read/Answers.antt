use Rattle.opcodes.proofs.ReadingLemmas.{of_its_form, may_stand_wide, wide_of_its_form}
use Rattle.opcodes.proofs.laws.instructions_are_read.Goals as goal

pub returns-clause-forms : goal.returns-clause-forms
returns-clause-forms c = of_its_form

pub returns-clause-wide_opcodes : goal.returns-clause-wide_opcodes
returns-clause-wide_opcodes c = may_stand_wide

pub returns-clause-wide_forms : goal.returns-clause-wide_forms
returns-clause-wide_forms c = wide_of_its_form

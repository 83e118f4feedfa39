use Rattle.opcode_steps.proofs.HeapLemmas.Widths.{arrays_short, fields_wide, fields_lie, elements_wide, elements_lie, statics_wide}
use Rattle.opcode_steps.proofs.heap.values_have_places.Goals as goal

pub returns-clause-short : goal.returns-clause-short
returns-clause-short c = arrays_short

pub returns-clause-field_widths : goal.returns-clause-field_widths
returns-clause-field_widths c = fields_wide

pub returns-clause-field_places : goal.returns-clause-field_places
returns-clause-field_places c = fields_lie c.image_words_lie.ensures.widths

pub returns-clause-element_widths : goal.returns-clause-element_widths
returns-clause-element_widths c = elements_wide

pub returns-clause-element_places : goal.returns-clause-element_places
returns-clause-element_places c = elements_lie

pub returns-clause-static_widths : goal.returns-clause-static_widths
returns-clause-static_widths c = statics_wide

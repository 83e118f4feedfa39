use Rattle.std.proofs.Common.{◌∙◌}
use Rattle.slot_table.proofs.NameLemmas.{word_refused}
use Rattle.slot_table.proofs.name.read_word.Goals as goal

pub returns-in-Ok-clause-bad : goal.returns-in-Ok-clause-bad
returns-in-Ok-clause-bad c =
    word_refused c.args.word.now c.deref.result.now c.parts_of.result c.written_are_read.ensures.read (c.deref.ensures.value ∙ c.in-Ok.ensures) c.parts_of.ensures.bad

use Rattle.std.proofs.Common.{◌≡◌, map, take}
use Rattle.std.specs.Prelude.{sum_by}
use Rattle.image_facts.specs.Words.{declared_words}
use Rattle.program_tables.specs.Meanings.{declared_seen}
use Rattle.image_layout.proofs.methods.words_of_types.Given as goal

abbrev pub invariant-loop-declared : goal.invariant-loop-declared
invariant-loop-declared l = l.words ≡ sum_by declared_words (map declared_seen (take l.declared-index l.types))

use Rattle.std.proofs.Common.{◌≡◌, ◌++◌, map}
use Rattle.std.specs.List.{range_with_len}
use Rattle.program_tables.specs.Tables.{kind_seen}
use Rattle.image_words.specs.Regions.{supertype_word}
use Rattle.image_words.proofs.types.add_supertypes.Given as goal

abbrev pub invariant-loop-word : goal.invariant-loop-word
invariant-loop-word l = l.words.items ≡ l.fn.words.items ++ map (supertype_word l.classes (kind_seen l.kind)) (range_with_len 0 l.word)

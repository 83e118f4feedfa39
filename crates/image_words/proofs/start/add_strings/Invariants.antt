use Rattle.std.proofs.Common.{◌≡◌, ◌++◌, List, take}
use Rattle.std.specs.List.{flat_map, enumerate_from}
use Rattle.class_pool.specs.declared.class.ClassFile.{ClassFile}
use Rattle.program_tables.specs.Resolving.{IsResolved}
use Rattle.image_words.specs.Outline.{IsOutline}
use Rattle.image_words.proofs.StartLemmas.{string_part}
use Rattle.image_words.proofs.start.add_strings.Given as goal

abbrev pub invariant-loop-string : goal.invariant-loop-string
invariant-loop-string l = (cs : List ClassFile) → IsResolved cs → IsOutline cs l.outline → l.words.items ≡ l.fn.words.items ++ flat_map (string_part cs) (take l.string (enumerate_from 0 l.strings))

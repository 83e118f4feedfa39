use Rattle.std.proofs.Common.{◌≡◌, ◌++◌, List, take}
use Rattle.std.specs.List.{flat_map, enumerate_from}
use Rattle.class_pool.specs.declared.class.ClassFile.{ClassFile}
use Rattle.program_tables.specs.Resolving.{IsResolved}
use Rattle.image_words.proofs.ObjectLemmas.{string_words}
use Rattle.image_words.proofs.objects.add_string_sizes.Given as goal

abbrev pub invariant-loop-string : goal.invariant-loop-string
invariant-loop-string l = (cs : List ClassFile) → IsResolved cs → l.sizes.items ≡ l.fn.sizes.items ++ flat_map (string_words cs) (take l.string (enumerate_from 0 l.strings))

use Rattle.std.proofs.Common.{◌≡◌, ◌+◌, ◌++◌, Some}
use Rattle.std.specs.Prelude.{slice_get}
use Rattle.std.specs.List.{flat_map, range_with_len}
use Rattle.class_pool.specs.declared.class.ClassFile.{ClassFile}
use Rattle.image_words.specs.Layout.{outline_of}
use Rattle.image_words.specs.Pools.{entry_words}
use Rattle.image_layout.proofs.entries.add_entries.Given as goal

abbrev pub invariant-loop-place : goal.invariant-loop-place
invariant-loop-place l =
    (k : ClassFile) → slice_get l.program l.number ≡ Some k
    → l.words.items ≡ l.fn.words.items ++ flat_map (entry_words l.program (outline_of l.program) l.number k) (range_with_len 0 (l.place + 1))

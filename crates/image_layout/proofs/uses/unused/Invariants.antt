use Rattle.std.proofs.Common.{◌≡◌, ℕ, List, [], map}
use Rattle.std.specs.List.{range_with_len}
use Rattle.class_pool.specs.declared.class.ClassFile.{ClassFile}
use Rattle.image_layout.specs.Uses.{use_of}
use Rattle.image_layout.proofs.uses.unused.Given as goal

abbrev pub invariant-loop-index : goal.invariant-loop-index
invariant-loop-index l = (cs : List ClassFile) (c : ℕ) (k : ClassFile) → l.uses.items ≡ map (use_of cs c k []) (range_with_len 0 l._index)

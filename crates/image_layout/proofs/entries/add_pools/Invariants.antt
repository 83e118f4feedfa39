use Rattle.std.proofs.Common.{◌≡◌, ◌++◌, ℕ, take}
use Rattle.std.specs.List.{flat_map, enumerate_from}
use Rattle.class_pool.specs.declared.class.ClassFile.{ClassFile}
use Rattle.image_words.specs.Layout.{outline_of}
use Rattle.image_words.specs.Pools.{pool_image}
use Rattle.image_layout.proofs.entries.add_pools.Given as goal

abbrev pub invariant-loop-class : goal.invariant-loop-class
invariant-loop-class l = l.words.items ≡ l.fn.words.items ++ flat_map (λ (e : ℕ × ClassFile). pool_image l.program (outline_of l.program) e.0 e.1) (take l.class (enumerate_from 0 l.program))

use Rattle.std.proofs.Common.{◌≡◌, take, map}
use Rattle.class_making.specs.Making.{entry_of}
use Rattle.class_making.proofs.maker.PoolMaker.pool.Given as goal

abbrev pub invariant-loop-item : goal.invariant-loop-item
invariant-loop-item l = l.entries.items ≡ map (entry_of l.self) (take l.item-index l.self)

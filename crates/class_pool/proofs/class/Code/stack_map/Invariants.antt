use Rattle.class_pool.specs.Found.{frames_part}
use Rattle.class_pool.proofs.FoundLemmas.{IsSame}
use Rattle.class_pool.proofs.class.Code.stack_map.Given as goal

abbrev pub invariant-loop-name : goal.invariant-loop-name
invariant-loop-name l = IsSame (frames_part l.pool) l.self.attributes l.name-index

use Rattle.class_pool.specs.Found.{code_part}
use Rattle.class_pool.proofs.FoundLemmas.{IsSame}
use Rattle.class_pool.proofs.class.Member.code.Given as goal

abbrev pub invariant-loop-attribute : goal.invariant-loop-attribute
invariant-loop-attribute l = IsSame (λ a. code_part a.body) l.self.attributes l.attribute-index

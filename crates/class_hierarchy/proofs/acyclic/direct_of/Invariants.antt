use Rattle.class_lookup.specs.Hierarchy.{direct_supertypes}
use Rattle.class_hierarchy.proofs.Ranks.{IsTable}
use Rattle.class_hierarchy.proofs.acyclic.direct_of.Given as goal

abbrev pub invariant-loop-class : goal.invariant-loop-class
invariant-loop-class l = IsTable (direct_supertypes l.classes) l.class l.above.items

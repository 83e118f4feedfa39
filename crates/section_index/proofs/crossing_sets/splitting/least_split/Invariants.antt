use Rattle.section_index.specs.Crossing.{IsLeast}
use Rattle.section_index.specs.Splitting.{IsSplitBelow, AreClasses}
use Rattle.section_index.proofs.crossing_sets.splitting.least_split.Given as goal

abbrev pub invariant-loop-p : goal.invariant-loop-p
invariant-loop-p l = record {
  classes : AreClasses l.family.sets l.order l.last l.p l.family.size l.classes;
  least : IsLeast (IsSplitBelow l.family.sets l.order l.last l.p) l.least;
}

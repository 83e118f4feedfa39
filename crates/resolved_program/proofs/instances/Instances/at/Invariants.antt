use Rattle.std.proofs.Common.{◌≡◌, ◌<◌, length}
use Rattle.std.specs.Prelude.{slice_get}
use Rattle.class_lookup.specs.Hierarchy.{superclasses}
use Rattle.program_tables.specs.Numbers.{instance_fields}
use Rattle.resolved_program.proofs.instances.Instances.at.Given as goal

abbrev pub invariant-loop-class : goal.invariant-loop-class
invariant-loop-class l = record {
  inside : l.at < length l.classes;
  within : l.index < length (instance_fields l.classes l.at);
  same : slice_get (instance_fields l.classes l.at) l.index ≡ slice_get (instance_fields l.classes l.class) l.index;
}

abbrev pub decreases-loop-class : goal.decreases-loop-class
decreases-loop-class l = length (superclasses l.classes l.at)

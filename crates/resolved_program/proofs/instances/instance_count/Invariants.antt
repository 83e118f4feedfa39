use Rattle.std.proofs.Common.{◌≡◌, ◌+◌, ◌<◌, [], length}
use Rattle.std.specs.Prelude.{IfSome}
use Rattle.std.specs.Option.{option_map_or}
use Rattle.class_lookup.specs.Hierarchy.{superclasses}
use Rattle.program_tables.specs.Numbers.{instance_fields}
use Rattle.resolved_program.proofs.instances.instance_count.Given as goal

abbrev pub invariant-loop-next : goal.invariant-loop-next
invariant-loop-next l = record {
  inside : IfSome l.next (λ s. s < length l.classes);
  count : l.count + length (option_map_or (instance_fields l.classes) l.next []) ≡ length (instance_fields l.classes l.class);
}

abbrev pub decreases-loop-next : goal.decreases-loop-next
decreases-loop-next l = option_map_or (λ s. length (superclasses l.classes s)) l.next 0

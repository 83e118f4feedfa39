use Rattle.std.proofs.Common.{◌≡◌, map}
use Rattle.std.specs.List.{range_with_len}
use Rattle.program_tables.specs.Numbers.{own_instance_fields}
use Rattle.resolved_program.proofs.instances.own_fields.Given as goal

abbrev pub invariant-loop-class : goal.invariant-loop-class
invariant-loop-class l = l.own.items ≡ map (own_instance_fields l.classes) (range_with_len 0 l.class)

use Rattle.std.proofs.Common.{◌≡◌, map, take}
use Rattle.program_tables.specs.Numbers.{static_fields}
use Rattle.program_sites.specs.Ints.Constants.{constant_int}
use Rattle.program_sites.proofs.ints.constants.constants.Given as goal

abbrev pub invariant-loop-index : goal.invariant-loop-index
invariant-loop-index l = l.found.items ≡ map (constant_int l.program) (take l.index (static_fields l.program))

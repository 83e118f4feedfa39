use Rattle.std.proofs.Common.{◌≡◌, [], take}
use Rattle.std.specs.Option.{option_map_or}
use Rattle.std.specs.List.{flat_map}
use Rattle.program_tables.specs.Instructions.{placed_at}
use Rattle.class_checks.specs.Causes.{unsupported_at}
use Rattle.class_checks.proofs.first.first_in_code.Given as goal

abbrev pub invariant-loop-pc : goal.invariant-loop-pc
invariant-loop-pc l = flat_map (λ pc. option_map_or (unsupported_at l.class l.method) (placed_at l.code pc) []) (take l.pc-index l.pc-items) ≡ []

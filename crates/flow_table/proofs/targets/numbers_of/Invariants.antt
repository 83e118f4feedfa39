use Rattle.std.proofs.Common.{◌≡◌, take}
use Rattle.std.specs.List.{filter_map}
use Rattle.bytecode_model.specs.Lists.{onto}
use Rattle.program_tables.specs.Numbers.{method_number}
use Rattle.flow_table.proofs.targets.numbers_of.Given as goal

abbrev pub invariant-loop-place : goal.invariant-loop-place
invariant-loop-place l = l.numbers.items ≡ filter_map (λ p. onto p (method_number l.program)) (take l.place-index l.places)

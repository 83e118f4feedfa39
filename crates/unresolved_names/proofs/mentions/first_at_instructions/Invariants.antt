use Rattle.std.proofs.Common.{◌≡◌, [], take}
use Rattle.std.specs.Option.{option_map_or}
use Rattle.std.specs.List.{flat_map}
use Rattle.program_tables.specs.Instructions.{placed_at}
use Rattle.unresolved_names.specs.Causes.{refused_instruction}
use Rattle.unresolved_names.proofs.mentions.first_at_instructions.Given as goal

abbrev pub invariant-loop-pc : goal.invariant-loop-pc
invariant-loop-pc l = flat_map (λ pc. option_map_or (refused_instruction l.caller.classes.now l.caller.namer.number l.caller.namer.class.now l.method) (placed_at l.code pc) []) (take l.pc-index l.pc-items) ≡ []

use Rattle.std.proofs.Common.{◌≡◌, [], take}
use Rattle.std.specs.List.{flat_map}
use Rattle.program_tables.specs.Unresolved.{mentions_in_method}
use Rattle.unresolved_names.specs.Causes.{refused_mention}
use Rattle.unresolved_names.proofs.mentions.first_in_methods.Given as goal

abbrev pub invariant-loop-method : goal.invariant-loop-method
invariant-loop-method l = flat_map (λ m. flat_map (refused_mention l.caller.classes.now l.caller.namer.number l.caller.namer.class.now) (mentions_in_method l.caller.namer.class.now m)) (take l.method-index l.caller.namer.class.now.methods) ≡ []

use Rattle.std.proofs.Common.{◌≡◌, [], take}
use Rattle.std.specs.List.{flat_map}
use Rattle.unresolved_names.specs.Causes.{refused_catch}
use Rattle.unresolved_names.proofs.mentions.first_at_handlers.Given as goal

abbrev pub invariant-loop-handler : goal.invariant-loop-handler
invariant-loop-handler l = flat_map (λ h. refused_catch l.namer.texts.now l.namer.number l.namer.class.now h.3) (take l.handler-index l.handlers) ≡ []

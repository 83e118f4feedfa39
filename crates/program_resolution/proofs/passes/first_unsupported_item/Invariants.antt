use Rattle.std.proofs.Common.{◌≡◌, [], take}
use Rattle.std.specs.List.{flat_map, enumerate_from}
use Rattle.program_resolution.specs.Linked.{files_in}
use Rattle.program_resolution.specs.Refusals.{Support, causes}
use Rattle.program_resolution.proofs.passes.first_unsupported_item.Given as goal

abbrev pub invariant-loop-file : goal.invariant-loop-file
invariant-loop-file l = flat_map (λ e. causes l.classes Support e.0 e.1) (take l.file (enumerate_from 0 (files_in l.classes l.files))) ≡ []

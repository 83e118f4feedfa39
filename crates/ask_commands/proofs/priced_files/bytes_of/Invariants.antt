use Rattle.std.proofs.Common.{◌≡◌, length, take}
use Rattle.std.specs.Prelude.{sum_by}
use Rattle.ask_commands.proofs.priced_files.bytes_of.Given as goal

abbrev pub invariant-loop-text : goal.invariant-loop-text
invariant-loop-text l = l.bytes ≡ sum_by (λ file. length file.items) (take l.text-index l.operands)

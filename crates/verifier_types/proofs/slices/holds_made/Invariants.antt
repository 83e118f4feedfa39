use Rattle.std.proofs.Common.{◌≡◌, drop}
use Rattle.bytecode_typing.specs.Types.{holds_made}
use Rattle.verifier_types.specs.Seen.{types_seen}
use Rattle.verifier_types.proofs.slices.holds_made.Given as goal

abbrev pub invariant-loop-item : goal.invariant-loop-item
invariant-loop-item l = holds_made l.place (types_seen (drop l.item-index l.items)) ≡ holds_made l.place (types_seen l.items)

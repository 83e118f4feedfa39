use Rattle.std.proofs.Common.{◌≡◌, take}
use Rattle.std.specs.List.{flat_map}
use Rattle.core_classes.specs.Core.{call_pieces}
use Rattle.core_classes.proofs.boot.boot_pieces.Given as goal

abbrev pub invariant-loop-name : goal.invariant-loop-name
invariant-loop-name l = l.pieces.items ≡ flat_map call_pieces (take l.name-index l.calls)

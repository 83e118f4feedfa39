use Rattle.std.proofs.Common.{◌≡◌, true, map, Some}
use Rattle.std.specs.List.{AllWithin}
use Rattle.program_tables.specs.Meanings.{handler_seen}
use Rattle.program_tables.specs.Resolved.{resolved}
use Rattle.verifier_types.specs.Frame.{frame_seen}
use Rattle.verifier_types.specs.Locals.{lists_seen}
use Rattle.bytecode_verifier.specs.Handled.{takes, IsHeld}
use Rattle.bytecode_verifier.specs.Maps.{frames_at}
use Rattle.bytecode_verifier.proofs.handlers.are_handled.Given as goal

abbrev pub invariant-loop-index : goal.invariant-loop-index
invariant-loop-index l =
    let t = l.initial.lists in
    (l.lists ≡ t)
    × (IsHeld (resolved t.classes) (frames_at (lists_seen t) l.maps) l.fn.asked (Some (frame_seen (lists_seen t) l.frame)) (map handler_seen l.handlers.items.items)
    → AllWithin (λ h. takes (resolved t.classes) (frames_at (lists_seen t) l.maps) l.place (frame_seen (lists_seen t) l.frame) (handler_seen h) ≡ true) l.handlers.items.items 0 l.index)

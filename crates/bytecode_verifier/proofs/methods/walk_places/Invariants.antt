use Rattle.std.proofs.Common.{◌≡◌, ℕ, drop, Option, Some}
use Rattle.std.specs.Option.{option_map}
use Rattle.bytecode_model.specs.Program.{Method, Body}
use Rattle.bytecode_typing.specs.Types.{TypeFrame}
use Rattle.bytecode_typing.specs.Walk as walk
use Rattle.program_tables.specs.Resolved.{resolved}
use Rattle.verifier_types.specs.Frame.{frame_seen}
use Rattle.verifier_types.specs.Locals.{HasListsOf, lists_seen}
use Rattle.bytecode_verifier.specs.Failure.{walk_failure}
use Rattle.bytecode_verifier.specs.Handled.{IsHeld}
use Rattle.bytecode_verifier.specs.Place.{IsMethodOf}
use Rattle.bytecode_verifier.proofs.methods.walk_places.Given as goal

abbrev pub invariant-loop-place : goal.invariant-loop-place
invariant-loop-place l =
    HasListsOf l.initial.lists l.lists
    × ((m : Method) (b : Body) (maps : ℕ → Option TypeFrame) → IsMethodOf l.initial.lists l.checking l.number m b maps
    → (walk_failure (walk.walk (resolved l.checking.program.now) l.number m b maps (drop l.place-index l.starts) (option_map (frame_seen (lists_seen l.lists)) l.falling))
    ≡ walk_failure (walk.walk (resolved l.checking.program.now) l.number m b maps l.starts (Some (frame_seen (lists_seen l.initial.lists) l.fn.first))))
    × IsHeld (resolved l.checking.program.now) maps l.asked (option_map (frame_seen (lists_seen l.lists)) l.falling) b.handlers)

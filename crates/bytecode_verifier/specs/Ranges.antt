-- Handlers whose ranges are joined.
-- For contracts within this crate alone: no public contract's meaning rests on this file.
use Rattle.std.specs.Prelude.{◌≡◌, ℕ, ◌&&◌, Option}
use Rattle.bytecode_model.specs.Program.{Program}
use Rattle.bytecode_typing.specs.Types.{TypeFrame}
use Rattle.program_tables.specs.declared.operand.Handler.{Handler}
use Rattle.program_tables.specs.Meanings.{handler_seen}
use Rattle.bytecode_verifier.specs.Handled.{takes}

-- it takes a frame at a place exactly where both do
abbrev pub HoldsAsBoth : (first second joined : Handler) → Type 0
HoldsAsBoth g h j = (P : Program) (frames : ℕ → Option TypeFrame) (place : ℕ) (f : TypeFrame)
    → takes P frames place f (handler_seen j) ≡ (takes P frames place f (handler_seen g) && takes P frames place f (handler_seen h))

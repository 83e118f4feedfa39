-- A handler at a place: JVM Specification SE 8, 4.10.1.6 (instructionSatisfiesHandlers).
-- For contracts within this crate alone: no public contract's meaning rests on this file.
use Rattle.std.specs.Prelude.{◌≡◌, ◌≤◌, ℕ, Bool, true, false, if◌then◌else◌, List, Option, Some, None}
use Rattle.bytecode_model.specs.Program.{Program, Handler}
use Rattle.bytecode_model.specs.Rows as rows
use Rattle.bytecode_model.specs.Rows.{Row}
use Rattle.bytecode_typing.specs.Types.{TypeFrame}
use Rattle.bytecode_typing.specs.Walk.{covers, is_handled, handlers_hold}

-- it takes the frame, if it covers the place
abbrev pub takes : Program → (frames : ℕ → Option TypeFrame) → (place : ℕ) → TypeFrame → Handler → Bool
takes P frames place f h = if covers place h then is_handled P frames f h else true

-- a handler that begins here needs not be asked again at the place, since it was at an earlier one
abbrev pub WasAsked : (asked : Option ℕ) → (place start : ℕ) → Type 0
WasAsked None place start = ⊥
WasAsked (Some before) place start = (start ≤ before) × (before ≤ place)

-- those that cover the place at which they were asked take the frame, if there is one
abbrev pub IsHeld : Program → (frames : ℕ → Option TypeFrame) → (asked : Option ℕ) → (falling : Option TypeFrame) → List Handler → Type 0
IsHeld P frames (Some place) (Some f) hs = handlers_hold P frames place f hs ≡ true
IsHeld P frames asked falling hs = Unit {0}

-- a handler sees no difference between them
abbrev pub HaveSameLocals : (first second : TypeFrame) → Type 0
HaveSameLocals f g = (f.locals ≡ g.locals) × (f.flag ≡ g.flag)

-- the same holds of them as of the others
abbrev pub HoldAlike : (handlers others : List Handler) → Type 0
HoldAlike hs others = (P : Program) (frames : ℕ → Option TypeFrame) (place : ℕ) (f : TypeFrame)
    → handlers_hold P frames place f hs ≡ handlers_hold P frames place f others

-- the instruction leaves the local variables as they are, and whether `this` is initialised
abbrev pub keeps_locals : Option Row → Bool
keeps_locals (Some (rows.Store sort local)) = false
keeps_locals (Some (rows.New class)) = false
keeps_locals (Some (rows.CallSpecial named method)) = false
keeps_locals row = true

-- What is proved of typing.
use Rattle.std.specs.Prelude.{◌≡◌, ◌↔◌, ℕ, ◌≤◌, true, List, Option, IfSome}
use Rattle.std.specs.Option.{IsSomeAnd}
use Rattle.bytecode_model.specs.State.{State}
use Rattle.bytecode_model.specs.Program.{Program, Limits, Method, Body, body_of}
use Rattle.bytecode_model.specs.Sizes.{body_words}
use Rattle.bytecode_model.specs.Steps.{step, boot_state, run_from}
use Rattle.bytecode_model.specs.WellFormed.{IsInput, IsWellFormed}
use Rattle.bytecode_typing.specs.Types.{TypeFrame}
use Rattle.bytecode_typing.specs.Rules.{Rule}
use Rattle.bytecode_typing.specs.Walk.{Failed, Frames, walked}
use Rattle.bytecode_typing.specs.Typed.{Typing, Typed}
use Rattle.bytecode_typing.specs.Fits.{Fits, IsGoing}
use Rattle.bytecode_typing.specs.Lawful.{Lawful}
use Rattle.bytecode_typing.specs.Typings.{IsTyping, BreaksOffAt, typing_found, HaveTypings}
use Rattle.bytecode_typing.specs.Bare.{IsStraightLine, bare_program, bare_typing}

-- in a typed program a state that fits and hasn't ended has a next state for each answer of the input, and it fits
abbrev pub TypedProgramsKeep : Type 0
TypedProgramsKeep =
    (P : Program) (types : Typing) (limits : Limits) → Lawful P → Typed P types
    → (s : State) → IsGoing s.mode → Fits P types limits s → (answer : Option ℕ) → IsInput answer → IsSomeAnd (step P limits answer s) (Fits P types limits)

-- so each state of a run from a state that fits does, where the input gives bytes and its end
abbrev pub TypedRunsFit : Type 0
TypedRunsFit =
    (P : Program) (types : Typing) (limits : Limits) → Lawful P → Typed P types → (input : ℕ → Option ℕ) → ((k : ℕ) → IsInput (input k))
    → (s : State) → Fits P types limits s → (n : ℕ) → Fits P types limits (run_from P limits input s n)

-- a state that fits is well formed
abbrev pub FittingStatesAreWellFormed : Type 0
FittingStatesAreWellFormed = (P : Program) (types : Typing) (limits : Limits) → Typed P types → (s : State) → Fits P types limits s → IsWellFormed P limits s

-- the boot state fits, where the frames' words have room for its frame
abbrev pub TheBootStateFits : Type 0
TheBootStateFits =
    (P : Program) (types : Typing) (limits : Limits) → Lawful P → Typed P types
    → IfSome (body_of P P.boot) (λ b. body_words b ≤ limits.frames) → IsSomeAnd (boot_state P) (Fits P types limits)

-- a walk ends with frames just where these are a typing, and with a place and a rule just where these fail first
abbrev pub TheWalkFindsATyping : Type 0
TheWalkFindsATyping =
    (P : Program) (n : ℕ) (m : Method) (b : Body) (maps : ℕ → Option TypeFrame)
    → ((fs : List (ℕ × TypeFrame)) → (walked P n m b maps ≡ Frames fs) ↔ IsTyping P n m b maps fs)
    × ((pc : ℕ) (r : Rule) → (walked P n m b maps ≡ Failed pc r) ↔ BreaksOffAt P n m b maps pc r)

-- a program whose methods have typings is typed
abbrev pub ProgramsWithTypingsAreTyped : Type 0
ProgramsWithTypingsAreTyped = (P : Program) (maps : Typing) → Lawful P → P.linked ≡ true → HaveTypings P maps → Typed P (typing_found P maps)

-- a bare image is lawful, and typed
abbrev pub BareProgramsAreTyped : Type 0
BareProgramsAreTyped = (b : Body) → IsStraightLine b → Lawful (bare_program b) × Typed (bare_program b) (bare_typing b)

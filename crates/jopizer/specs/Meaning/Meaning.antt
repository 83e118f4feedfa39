-- What a typed program keeps: JVM Specification SE 8, 4.10. Fits says that a state's values have the types that the typing gives them.
use Rattle.std.specs.Prelude.{ℕ, ◌≤◌, Option, IfSome}
use Rattle.std.specs.Option.{IsSomeAnd}
use Rattle.bytecode_model.specs.State.{State}
use Rattle.bytecode_model.specs.Program.{Program, Limits, body_of}
use Rattle.bytecode_model.specs.Sizes.{body_words}
use Rattle.bytecode_model.specs.Steps.{step, boot_state, run_from}
use Rattle.bytecode_model.specs.WellFormed.{IsInput}
use Rattle.bytecode_typing.specs.Typed.{Typing}
use Rattle.bytecode_typing.specs.Fits.{Fits, IsGoing}

-- a state that fits and hasn't ended has a next state for each answer of the input, and it fits
abbrev pub Keeps : Program → (types : Typing) → Type 0
Keeps P types = (limits : Limits) (s : State) → IsGoing s.mode → Fits P types limits s → (answer : Option ℕ) → IsInput answer
    → IsSomeAnd (step P limits answer s) (Fits P types limits)

-- so does each state of a run from a state that does, where the input gives bytes and its end
abbrev pub Runs : Program → (types : Typing) → Type 0
Runs P types = (limits : Limits) (input : ℕ → Option ℕ) → ((k : ℕ) → IsInput (input k)) → (s : State) → Fits P types limits s → (n : ℕ)
    → Fits P types limits (run_from P limits input s n)

-- and the state with which the program begins, where the frames' words have room for its frame
abbrev pub Begins : Program → (types : Typing) → Type 0
Begins P types = (limits : Limits) → IfSome (body_of P P.boot) (λ b. body_words b ≤ limits.frames) → IsSomeAnd (boot_state P) (Fits P types limits)

-- What well placed programs keep.
use Rattle.std.specs.Prelude.{◌≡◌, ◌⊎◌, ℕ, Some, None, ℤ, pos, ◌+ℤ◌, IsTrue, Contains}
use Rattle.std.specs.Option.{IsSomeAnd}
use Rattle.opcodes.specs.Start.{first_bad, IsStart}
use Rattle.bytecode_model.specs.Program.{Program, Body, body_of}
use Rattle.bytecode_model.specs.Rows.{Row}
use Rattle.bytecode_model.specs.Steps.{row_in}
use Rattle.bytecode_typing.specs.WellPlaced.{goes_on, offsets_of, WellPlaced}

-- each code is whole instructions
abbrev pub CodeIsWhole : Type 0
CodeIsWhole = (P : Program) → WellPlaced P → (n : ℕ) (b : Body) → body_of P n ≡ Some b → first_bad b.code ≡ None

-- control may go from the instruction at pc, whose row this is and behind which `next` lies, to the place q
abbrev pub MayGoTo : (pc next : ℕ) → Row → (q : ℕ) → Type 0
MayGoTo pc next r q = (IsTrue (goes_on r) × (q ≡ next)) ⊎ ((offset : ℤ) × Contains (offsets_of r) offset × (pos pc +ℤ offset ≡ pos q))

-- each instruction has a row, and so has each to which control may go from it
abbrev pub ControlStays : Type 0
ControlStays =
    (P : Program) → WellPlaced P → (n : ℕ) (b : Body) → body_of P n ≡ Some b → (pc : ℕ) → IsStart b.code pc
    → IsSomeAnd (row_in P n pc) (λ x. (q : ℕ) → MayGoTo pc x.0 x.1 q → IsStart b.code q × IsSomeAnd (row_in P n q) (λ y. Unit {0}))

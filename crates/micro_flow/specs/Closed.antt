-- Where walks of the ROM can come to.
use Rattle.std.specs.Prelude.{◌≡◌, ◌≢◌, ℕ, ◌<◌, Bool, true, false, List, ◌∷◌, length, slice_index}
use Rattle.microcode.specs.declared.TheConstants.{WORDS, ENTRIES, RAISE}
use Rattle.opcodes.specs.Row.{row_of}
use Rattle.micro_flow.specs.declared.CostParams.{CostParams}
use Rattle.micro_flow.specs.Walk.{walk, begin}

-- each opcode's row begins within the list of words
abbrev pub EntriesInside : Type 0
EntriesInside = (op : ℕ) → op < 256 → slice_index ENTRIES op < length WORDS

-- no opcode's row begins where the raise routine does
abbrev pub RaiseApart : Type 0
RaiseApart = (op : ℕ) → op < 256 → slice_index ENTRIES op ≢ RAISE

-- An opcode's entry is come to by dispatch alone: a walk from any word of the list that has gone on and isn't over stands at none.
abbrev pub ReachedByDispatch : Type 0
ReachedByDispatch = (p : CostParams) (at : ℕ) (choice : Bool) (choices : List Bool) (op : ℕ) → at < length WORDS → op < 256
    → (walk p (choice ∷ choices) (begin p at)).over ≡ false → (walk p (choice ∷ choices) (begin p at)).at ≢ slice_index ENTRIES op

-- a walk of an opcode's row comes to the raise routine only where the table of the opcodes says that the opcode may raise
abbrev pub RaisesWhereItMay : Type 0
RaisesWhereItMay = (p : CostParams) (op : ℕ) (choices : List Bool) → op < 256 → (walk p choices (begin p (slice_index ENTRIES op))).at ≡ RAISE
    → (row_of op).raises ≡ true

-- The opcodes with a row, by computing over all of them.
use Rattle.std.proofs.Common.{◌≡◌, ℕ, ◌<◌, Bool, true, false, ◌==◌, ◌||◌, if◌then◌else◌, List, [], ◌∷◌, map, Option, Some, None, is_some, get_or, pos, refl, sym, ◌∙◌, ap, arith}
use Rattle.std.specs.List.{list_any, range_with_len}
use Rattle.std.proofs.lemmas.Bool.{false≢true}
use Rattle.std.proofs.lemmas.List.FromFn.{get_or-map-range_with_len}
use Rattle.opcodes.specs.declared.instruction.Instr.{Instr}
use Rattle.opcodes.specs.Row as opcodes
use Rattle.bytecode_model.specs.Types.{OfClass}
use Rattle.bytecode_model.specs.Program.{Operand, NoOperand, AnInt, ALong, AStatic, AField, AMethod, AType}
use Rattle.bytecode_model.specs.Rows.{Row}
use Rattle.bytecode_model.specs.Table.{Meaning, instructions, row_among, row_of}
use Rattle.bytecode_model.specs.Supported.{is_supported, HasRow, IsSupportedOrNot, NamesAreRight, RowsAreOfTheirOpcodes}

-- ---- an operand of each sort is tried

sample : ℕ → Instr
sample op = record { op = op; wide = false; length = 1; first = pos 4; second = pos 0; count = 0; table = 0 }

operands : List Operand
operands = NoOperand ∷ AnInt (pos 0) ∷ ALong (pos 0) ∷ AStatic 0 ∷ AField 0 0 0 ∷ AMethod 0 0 ∷ AType (OfClass 0) ∷ []

has_row : ℕ → Bool
has_row op = list_any (λ o. is_some (row_of [] (sample op) o)) operands

found : (op : ℕ) (o : Operand) (r : Option Row) → row_of [] (sample op) o ≡ r → is_some r ≡ true → HasRow op
unfolding sample
found op o None is h = absurd (false≢true h)
found op o (Some r) is h = record { code = []; instr = sample op; operand = o; is = refl; row = r; has = is }

found_among : (op : ℕ) (os : List Operand) → list_any (λ o. is_some (row_of [] (sample op) o)) os ≡ true → HasRow op
found_among op [] h = absurd (false≢true h)
found_among op (o ∷ os) h = first (found_among op os) (is_some (row_of [] (sample op) o)) refl h
  where
    first : (list_any (λ p. is_some (row_of [] (sample op) p)) os ≡ true → HasRow op)
        → (b : Bool) → is_some (row_of [] (sample op) o) ≡ b → (b || list_any (λ p. is_some (row_of [] (sample op) p)) os) ≡ true → HasRow op
    first later true is any = found op o (row_of [] (sample op) o) refl is
    first later false is any = later any

-- ---- no other opcode is listed

listed : ℕ → List Meaning → Bool
listed op ms = list_any (λ m. m.opcode == op) ms

none_among : (op : ℕ) (ms : List Meaning) (code : List ℕ) (i : Instr) (o : Operand) → i.op ≡ op → listed op ms ≡ false → row_among ms code i o ≡ None
unfolding listed
none_among op [] code i o is h = refl
none_among op (m ∷ ms) code i o is h = step (none_among op ms code i o is) (m.opcode == op) refl h
  where
    step : (listed op ms ≡ false → row_among ms code i o ≡ None)
        → (b : Bool) → (m.opcode == op) ≡ b → (b || listed op ms) ≡ false → row_among (m ∷ ms) code i o ≡ None
    step later true e any = absurd (false≢true (sym any))
    step later false e any = ap (λ k. if m.opcode == k then m.row code i o else row_among ms code i o) is
        ∙ ap (λ t. if t then m.row code i o else row_among ms code i o) e ∙ later any

-- ---- all opcodes

rows_found : map has_row (range_with_len 0 256) ≡ map is_supported (range_with_len 0 256)
unfolding has_row operands sample row_of opcodes.row_of
rows_found = refl

all_listed : map (λ op. listed op instructions) (range_with_len 0 256) ≡ map is_supported (range_with_len 0 256)
unfolding listed opcodes.row_of
all_listed = refl

at : (f g : ℕ → Bool) → map f (range_with_len 0 256) ≡ map g (range_with_len 0 256) → (op : ℕ) → op < 256 → f op ≡ g op
at f g same op h =
    sym (get_or-map-range_with_len f 0 256 op op false h (omega arith)) ∙ ap (λ (list : List Bool). get_or list op false) same
    ∙ get_or-map-range_with_len g 0 256 op op false h (omega arith)

with_row : (op : ℕ) → has_row op ≡ true → HasRow op
unfolding has_row
with_row op h = found_among op operands h

without_row : (op : ℕ) → listed op instructions ≡ false → (code : List ℕ) (i : Instr) (o : Operand) → i.op ≡ op → row_of code i o ≡ None
unfolding row_of
without_row op h code i o is = none_among op instructions code i o is h

supported_or_not : (op : ℕ) → op < 256 → IsSupportedOrNot op
supported_or_not op h = record {
  supported = λ is. with_row op (at has_row is_supported rows_found op h ∙ is);
  unsupported = λ not_so. without_row op (at (λ k. listed k instructions) is_supported all_listed op h ∙ not_so);
}

names_are_right : NamesAreRight
unfolding opcodes.row_of
names_are_right = refl

pub rows_are_of_their_opcodes : RowsAreOfTheirOpcodes
rows_are_of_their_opcodes = record { rows = supported_or_not; names = names_are_right }

-- The lines of a text together: addresses, labels, and the rules that a line may break.
use Rattle.std.specs.Prelude.{◌≡◌, ℕ, ◌+◌, ◌%◌, Bool, true, false, ◌&&◌, ◌||◌, ◌==◌, nat_le, if◌then◌else◌, List, [], ◌∷◌, ◌++◌, map, Option}
use Rattle.std.specs.Prelude.{Some, None, is_none, option_map}
use Rattle.std.specs.List.{list_any, flat_map}
use Rattle.std.specs.Map.{lookup}
use Rattle.ascii_text.specs.Line.{lines_of}
use Rattle.microcode.specs.declared.isa.Turns.{Turns}
use Rattle.microcode_asm.specs.declared.AsmKind.{AsmKind}
use Rattle.microcode_asm.specs.declared.AsmKind.TheVariants.{Form, NoLabel, LabelTwice, EntryTwice, ConstTwice, NoTurns}
use Rattle.microcode_asm.specs.Parts.{is}
use Rattle.microcode_asm.specs.Statements.{Statement, word, branch, entry, raise, constant, turns, size_of, Line, line_of}

-- the lines of a text; one that isn't of the grammar is None
abbrev pub read_lines : (text : List ℕ) → List (Option Line)
read_lines text = map line_of (lines_of text)

-- ---- addresses

-- how many words lines make
abbrev pub word_count : List Line → ℕ
word_count [] = 0
word_count (line ∷ lines) = size_of line.statement + word_count lines

-- the address of the word before which there are n
abbrev pub address : ℕ → ℕ
address n = n % 2048

-- the labels of a line before which there are n words, with that number; a line that isn't of the grammar has none
abbrev pub labels_at : (n : ℕ) → Option Line → List (List ℕ × ℕ)
labels_at n None = []
labels_at n (Some line) = map (λ name. (name, n)) line.labels

-- how many words a line makes; one that isn't of the grammar makes none
abbrev pub size_at : Option Line → ℕ
size_at None = 0
size_at (Some line) = size_of line.statement

-- the labels of lines with the numbers of the words before them, where n words stand before the lines
abbrev pub labels_from : (n : ℕ) → List (Option Line) → List (List ℕ × ℕ)
labels_from n [] = []
labels_from n (line ∷ lines) = labels_at n line ++ labels_from (n + size_at line) lines

-- the addresses of labels by their names
abbrev pub LabelPlaces : Type 0
LabelPlaces = (name : List ℕ) → Option ℕ

-- of a label that stands twice, the first place counts
abbrev pub places_in : List (List ℕ × ℕ) → LabelPlaces
places_in labels name = option_map address (lookup (is name) labels)

-- the addresses of the labels of a text
abbrev pub places_of : (text : List ℕ) → LabelPlaces
places_of text = places_in (labels_from 0 (read_lines text))

-- ---- turns

-- the turns that count behind a statement: those of the last `.turns` since the word before
abbrev pub turns_behind : Option Turns → Statement → Option Turns
turns_behind before (turns t) = Some t
turns_behind before (word bits) = None
turns_behind before (branch how label) = None
turns_behind before other = before

abbrev pub turns_after : Option Turns → List Line → Option Turns
turns_after before [] = before
turns_after before (line ∷ lines) = turns_after (turns_behind before line.statement) lines

-- ---- the rules

abbrev pub labels_in : List Line → List (List ℕ)
labels_in lines = flat_map (λ line. line.labels) lines

-- one of the names is there already, or stands twice
abbrev pub repeats : (there names : List (List ℕ)) → Bool
repeats there [] = false
repeats there (name ∷ names) = list_any (is name) there || repeats (there ++ name ∷ []) names

abbrev pub enters : (op : ℕ) → Statement → Bool
enters op (entry o) = o == op
enters op other = false

abbrev pub raises : Statement → Bool
raises raise = true
raises other = false

abbrev pub sets : (number : ℕ) → Statement → Bool
sets number (constant n v) = n == number
sets number other = false

abbrev pub is_entry : (op : ℕ) → Line → Bool
is_entry op line = enters op line.statement

abbrev pub is_raise : Line → Bool
is_raise line = raises line.statement

abbrev pub is_constant : (number : ℕ) → Line → Bool
is_constant number line = sets number line.statement

-- of a branch at an address to a label of this place, where these turns count
abbrev pub branch_fault : (place : Option ℕ) → (from : ℕ) → Option Turns → Option AsmKind
branch_fault None from t = Some NoLabel
branch_fault (Some to) from t = if nat_le to from && is_none t then Some NoTurns else None

-- the rule that a statement breaks behind these lines
abbrev pub statement_fault : LabelPlaces → (before : List Line) → Statement → Option AsmKind
statement_fault place before (entry op) = if list_any (is_entry op) before then Some EntryTwice else None
statement_fault place before raise = if list_any is_raise before then Some EntryTwice else None
statement_fault place before (constant number value) = if list_any (is_constant number) before then Some ConstTwice else None
statement_fault place before (branch how label) = branch_fault (place label) (address (word_count before)) (turns_after None before)
statement_fault place before other = None

-- the first rule that a line breaks behind these lines, if it breaks one
abbrev pub fault_of : LabelPlaces → (before : List Line) → Option Line → Option AsmKind
fault_of place before None = Some Form
fault_of place before (Some line) = if repeats (labels_in before) line.labels then Some LabelTwice else statement_fault place before line.statement

-- each line keeps the rules behind those before it
abbrev pub KeepRules : LabelPlaces → List Line → Type 0
KeepRules place lines = (before : List Line) (line : Line) (after : List Line) → lines ≡ before ++ line ∷ after → fault_of place before (Some line) ≡ None

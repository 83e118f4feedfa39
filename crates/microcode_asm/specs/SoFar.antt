-- What is kept of the lines that were assembled.
use Rattle.std.specs.Prelude.{◌≡◌, ℕ, ◌<◌, ◌≤◌, Bool, false, if◌then◌else◌, List, [], ◌∷◌, ◌++◌, length, map, slice_index_or, slice_set, Option, Some, None}
use Rattle.std.specs.Prelude.{is_some, unwrap_or, option_map, nat_eq, Vec}
use Rattle.std.specs.List.{flat_map}
use Rattle.std.specs.Cmp.Lexicographic.{pointwise}
use Rattle.std.specs.declared.alloc.Global.{Global}
use Rattle.indexmap.specs.IndexMap.{IndexMap, get_by}
use Rattle.microcode.specs.declared.isa.Turns.{Turns}
use Rattle.microcode.specs.Isa.Words.{word_of}
use Rattle.microcode_asm.specs.declared.statement.Branch.{Branch}
use Rattle.microcode_asm.specs.Statements.{Statement, nothing, word, branch, entry, raise, constant, turns, Line}
use Rattle.microcode_asm.specs.declared.AsmKind.{AsmKind}
use Rattle.microcode_asm.specs.declared.AsmKind.TheVariants.{Form, LabelTwice, EntryTwice, ConstTwice}
use Rattle.microcode_asm.specs.declared.AsmFault.{AsmFault}
use Rattle.microcode_asm.specs.declared.AsmFault.TheVariants.{Line as AtLine, TooLong, NoMemory}
use Rattle.microcode_asm.specs.declared.Rom.{Rom}
use Rattle.microcode_asm.specs.declared.state.Assembly.{Assembly}
use Rattle.microcode_asm.specs.Programs.{LabelPlaces, address, labels_in, turns_after, repeats, branch_fault, is_entry, is_raise}
use Rattle.microcode_asm.specs.Roms.{branch_to, words_of, named_from, constant_in, turns_of_branch, turns_from}

abbrev pub texts : List (Vec ℕ Global) → List (List ℕ)
texts names = map (λ name. name.items) names

-- the addresses that a table of labels gives
abbrev pub places_by : {S : Type 0} → IndexMap (Vec ℕ Global) ℕ S → LabelPlaces
places_by labels name = option_map address (get_by (λ k. pointwise nat_eq name k.items) labels)

-- the names of the labels, the words, and what the directives gave
pub record Kept : Type 0 where
  pub names : List (List ℕ)
  pub words : List ℕ
  pub entries : List (Option ℕ)
  pub raise_entry : Option ℕ
  pub constants : List (Option ℕ)
  pub turns_are : List (ℕ × Turns)
  pub counting : Option Turns

abbrev pub kept : Assembly → Kept
kept a = record {
  names = texts a.names.keys;
  words = a.words.items;
  entries = a.entries.items;
  raise_entry = a.raise;
  constants = a.consts.items;
  turns_are = a.turns.items;
  counting = a.counting;
}

-- the address of the next word
abbrev pub next : Kept → ℕ
next k = address (length k.words)

-- ---- one line more

abbrev pub with_word : (bits : ℕ) → Kept → Kept
with_word bits k = record k { words = k.words ++ bits ∷ []; counting = None }

abbrev pub with_branch : Branch → (place : Option ℕ) → Kept → Kept
with_branch how place k = record k {
  words = k.words ++ word_of (branch_to how (unwrap_or place 0)) ∷ [];
  turns_are = k.turns_are ++ turns_of_branch place (next k) k.counting;
  counting = None;
}

abbrev pub with_entry : (op : ℕ) → Kept → Kept
with_entry op k = record k { entries = slice_set k.entries op (Some (next k)) }

abbrev pub with_raise : Kept → Kept
with_raise k = record k { raise_entry = Some (next k) }

abbrev pub with_constant : (number value : ℕ) → Kept → Kept
with_constant number value k = record k { constants = slice_set k.constants number (Some value) }

abbrev pub with_turns : Turns → Kept → Kept
with_turns t k = record k { counting = Some t }

abbrev pub with_statement : LabelPlaces → Statement → Kept → Kept
with_statement place nothing k = k
with_statement place (word bits) k = with_word bits k
with_statement place (branch how label) k = with_branch how (place label) k
with_statement place (entry op) k = with_entry op k
with_statement place raise k = with_raise k
with_statement place (constant number value) k = with_constant number value k
with_statement place (turns t) k = with_turns t k

abbrev pub with_names : List (List ℕ) → Kept → Kept
with_names names k = record k { names = k.names ++ names }

abbrev pub with_line : LabelPlaces → Line → Kept → Kept
with_line place line k = with_statement place line.statement (with_names line.labels k)

-- ---- the rule that it breaks

abbrev pub entry_fault_by : (there : Bool) → Option AsmKind
entry_fault_by there = if there then Some EntryTwice else None

abbrev pub constant_fault_by : (there : Bool) → Option AsmKind
constant_fault_by there = if there then Some ConstTwice else None

abbrev pub statement_fault_by : LabelPlaces → Statement → Kept → Option AsmKind
statement_fault_by place (entry op) k = entry_fault_by (is_some (slice_index_or k.entries op None))
statement_fault_by place raise k = entry_fault_by (is_some k.raise_entry)
statement_fault_by place (constant number value) k = constant_fault_by (is_some (slice_index_or k.constants number None))
statement_fault_by place (branch how label) k = branch_fault (place label) (next k) k.counting
statement_fault_by place other k = None

abbrev pub line_fault_by : LabelPlaces → Line → Kept → Option AsmKind
line_fault_by place line k = if repeats k.names line.labels then Some LabelTwice else statement_fault_by place line.statement k

-- the numbers of opcodes and constants are in range
abbrev pub HasRange : Statement → Type 0
HasRange (entry op) = op < 256
HasRange (constant number value) = number < 32
HasRange other = Unit {0}

-- ---- a line by its text, which is None where it isn't of the grammar

abbrev pub text_fault_by : LabelPlaces → Option Line → Kept → Option AsmKind
text_fault_by place None k = Some Form
text_fault_by place (Some line) k = line_fault_by place line k

abbrev pub with_text : LabelPlaces → Option Line → Kept → Kept
with_text place None k = k
with_text place (Some line) k = with_line place line k

-- where no label of it stands twice
abbrev pub TextHasRange : Option Line → Kept → Type 0
TextHasRange None k = Unit {0}
TextHasRange (Some line) k = repeats k.names line.labels ≡ false → HasRange line.statement

-- ---- the whole

-- this is what lines give
pub record IsAssembledSoFar (place : LabelPlaces) (lines : List Line) (k : Kept) : Type 0 where
  pub names : k.names ≡ labels_in lines
  pub words : k.words ≡ flat_map (λ line. words_of place line.statement) lines
  pub entry_count : length k.entries ≡ 256
  pub entries : (op : ℕ) → op < 256 → slice_index_or k.entries op None ≡ named_from 0 (is_entry op) lines
  pub raise_entry : k.raise_entry ≡ named_from 0 is_raise lines
  pub constant_count : length k.constants ≡ 32
  pub constants : (number : ℕ) → number < 32 → slice_index_or k.constants number None ≡ constant_in number lines
  pub turns_are : k.turns_are ≡ turns_from place 0 None lines
  pub counting : k.counting ≡ turns_after None lines

-- the microprogram of what was kept
pub record IsRomOf (k : Kept) (rom : Rom) : Type 0 where
  pub words : rom.words ≡ k.words
  pub entries : rom.entries ≡ map (λ e. unwrap_or e 0) k.entries
  pub raise_entry : rom.raise ≡ unwrap_or k.raise_entry 0
  pub constants : rom.consts ≡ map (λ v. unwrap_or v 0) k.constants
  pub turns_are : rom.turns ≡ k.turns_are
  pub fits : length k.words ≤ 2048

-- why what was kept is no microprogram
abbrev pub IsTooLongFor : Kept → AsmFault → Type 0
IsTooLongFor k (AtLine number kind) = ⊥
IsTooLongFor k (TooLong words) = (words ≡ length k.words) × (2048 < words)
IsTooLongFor k NoMemory = Unit {0}

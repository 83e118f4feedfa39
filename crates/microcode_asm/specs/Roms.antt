-- What a text is assembled to.
use Rattle.std.specs.Prelude.{◌≡◌, ℕ, suc, ◌+◌, ◌<◌, ◌≤◌, false, Bool, ◌==◌, nat_le, if◌then◌else◌, List, [], ◌∷◌, ◌++◌, length, map, Option, Some, None}
use Rattle.std.specs.Prelude.{unwrap_or}
use Rattle.std.specs.List.{flat_map, range_with_len}
use Rattle.microcode.specs.declared.isa.Body.TheVariants.{Bz, Bnz, Jmp}
use Rattle.microcode.specs.declared.isa.Micro.{Micro}
use Rattle.microcode.specs.declared.isa.Turns.{Turns}
use Rattle.microcode.specs.Isa.Words.{word_of}
use Rattle.microcode_asm.specs.declared.AsmKind.{AsmKind}
use Rattle.microcode_asm.specs.declared.AsmFault.{AsmFault}
use Rattle.microcode_asm.specs.declared.AsmFault.TheVariants.{Line as AtLine, TooLong, NoMemory}
use Rattle.microcode_asm.specs.declared.Rom.{Rom}
use Rattle.microcode_asm.specs.declared.statement.Branch.{Branch}
use Rattle.microcode_asm.specs.declared.statement.Branch.TheVariants.{IfZero, IfNotZero, Always}
use Rattle.microcode_asm.specs.Statements.{Statement, word, branch, raise, constant, turns, size_of, Line}
use Rattle.microcode_asm.specs.Programs.{read_lines, word_count, address, LabelPlaces, places_of, turns_behind, is_entry, is_raise, fault_of, KeepRules}

-- ---- words

abbrev pub branch_to : Branch → (to : ℕ) → Micro
branch_to IfZero to = record { body = Bz to; opd = false; nxt = false }
branch_to IfNotZero to = record { body = Bnz to; opd = false; nxt = false }
branch_to Always to = record { body = Jmp to; opd = false; nxt = false }

-- the word of a statement that makes one
abbrev pub words_of : LabelPlaces → Statement → List ℕ
words_of place (word bits) = bits ∷ []
words_of place (branch how label) = word_of (branch_to how (unwrap_or (place label) 0)) ∷ []
words_of place other = []

-- ---- what directives give

-- where n words stand before: the address that the first line that passes the test names
abbrev pub named_from : (n : ℕ) → (Line → Bool) → List Line → Option ℕ
named_from n test [] = None
named_from n test (line ∷ lines) = if test line then Some (address n) else named_from (n + size_of line.statement) test lines

-- the value that a statement gives a constant, else this one
abbrev pub value_or : (number : ℕ) → Option ℕ → Statement → Option ℕ
value_or number others (constant n v) = if n == number then Some v else others
value_or number others other = others

-- the value to which a constant is set first
abbrev pub constant_in : (number : ℕ) → List Line → Option ℕ
constant_in number [] = None
constant_in number (line ∷ lines) = value_or number (constant_in number lines) line.statement

-- the turns of a branch at an address to this place, where these count
abbrev pub turns_of_branch : (place : Option ℕ) → (from : ℕ) → Option Turns → List (ℕ × Turns)
turns_of_branch (Some to) from (Some t) = if nat_le to from then (from, t) ∷ [] else []
turns_of_branch place from t = []

abbrev pub turns_here : LabelPlaces → (n : ℕ) → Option Turns → Statement → List (ℕ × Turns)
turns_here place n before (branch how label) = turns_of_branch (place label) (address n) before
turns_here place n before other = []

-- the branches that have turns, where n words and these turns stand before
abbrev pub turns_from : LabelPlaces → (n : ℕ) → Option Turns → List Line → List (ℕ × Turns)
turns_from place n before [] = []
turns_from place n before (line ∷ lines) = turns_here place n before line.statement
    ++ turns_from place (n + size_of line.statement) (turns_behind before line.statement) lines

-- ---- the whole

-- all lines are of the grammar and keep the rules
pub record IsProgram (text : List ℕ) (lines : List Line) : Type 0 where
  pub read : read_lines text ≡ map Some lines
  pub kept : KeepRules (places_of text) lines

-- the words of a program, and what its directives give
pub record IsAssembled (text : List ℕ) (rom : Rom) : Type 0 where
  pub lines : List Line
  pub program : IsProgram text lines
  pub fits : word_count lines ≤ 2048
  pub words : rom.words ≡ flat_map (λ line. words_of (places_of text) line.statement) lines
  pub entries : rom.entries ≡ map (λ op. unwrap_or (named_from 0 (is_entry op) lines) 0) (range_with_len 0 256)
  pub raise_entry : rom.raise ≡ unwrap_or (named_from 0 is_raise lines) 0
  pub constants : rom.consts ≡ map (λ number. unwrap_or (constant_in number lines) 0) (range_with_len 0 32)
  pub turns_are : rom.turns ≡ turns_from (places_of text) 0 None lines

-- the lines before this one, whose number counts from 1, keep the rules, and it breaks this one first
pub record IsFirstRefused (text : List ℕ) (number : ℕ) (kind : AsmKind) : Type 0 where
  pub before : List Line
  pub line : Option Line
  pub after : List (Option Line)
  pub lines : read_lines text ≡ map Some before ++ line ∷ after
  pub number_is : number ≡ suc (length before)
  pub kept : KeepRules (places_of text) before
  pub broken : fault_of (places_of text) before line ≡ Some kind

-- no line is refused, and the words are more than the ROM has
pub record HasTooManyWords (text : List ℕ) (words : ℕ) : Type 0 where
  pub lines : List Line
  pub program : IsProgram text lines
  pub count : words ≡ word_count lines
  pub many : 2048 < words

-- the cause of a fault
abbrev pub IsRefused : (text : List ℕ) → AsmFault → Type 0
IsRefused text (AtLine number kind) = IsFirstRefused text number kind
IsRefused text (TooLong words) = HasTooManyWords text words
IsRefused text NoMemory = Unit {0}

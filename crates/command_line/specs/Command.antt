-- The command that the words give.
use Rattle.std.specs.Prelude.{ℕ, ◌+◌, ◌-◌, Bool, true, false, not, ◌==◌, ◌&&◌, ◌||◌, nat_le, nat_lt, if◌then◌else◌, List, [], ◌∷◌, length, slice_index, Some}
use Rattle.std.specs.Prelude.{None, Ok, Err, is_some, unwrap_or, get_or, slice_set}
use Rattle.std.specs.Str.{all_ascii_digits}
use Rattle.std.specs.declared.option.Option.{Option}
use Rattle.std.specs.declared.result.Result.{Result}
use Rattle.std.specs.Borrow.{Bor}
use Rattle.std.specs.List.{list_any, list_all}
use Rattle.ascii_text.specs.Number.{value_of}
use Rattle.command_line.specs.declared.table.Verb.{Verb}
use Rattle.command_line.specs.declared.table.Verb.TheVariants.{Link, Run, Trace, Profile, Bound, Report, Plan, Cycle, Check, Loops, Headers}
use Rattle.command_line.specs.declared.table.Verb.TheVariants.{Need, Rtl, Asm, Work}
use Rattle.command_line.specs.declared.table.Name.{Name}
use Rattle.command_line.specs.declared.table.Name.TheVariants.{Main, Method, All, Shapes, Cycles, Stack, Memory, Blocks, BlockWords, Read, Write, Micro, Rounds}
use Rattle.command_line.specs.declared.table.Name.TheVariants.{Further, Facts}
use Rattle.command_line.specs.declared.command.Settings.{Settings}
use Rattle.command_line.specs.declared.command.Command.{Command}
use Rattle.command_line.specs.declared.command.Command.TheVariants as commands
use Rattle.command_line.specs.Table.{place_of, OptionValue, Nothing, AWord, ANumber, OneOf, value_of_name, usual, rivals, required_of, OperandCount, Exactly}
use Rattle.command_line.specs.Table.{AtMost}
use Rattle.command_line.specs.Table.{AtLeast, Number, operands_of, verb_named, name_of}

-- the bytes of the words
abbrev pub texts : List (Bor (List ℕ)) → List (List ℕ)
texts [] = []
texts (word ∷ words) = word.now ∷ texts words

-- the word begins as an option does
abbrev pub is_option : List ℕ → Bool
is_option [] = false
is_option (x ∷ []) = false
is_option (x ∷ y ∷ rest) = x == 45 && y == 45

-- decimal digits without a leading zero, `0` itself excepted
abbrev pub is_number : List ℕ → Bool
is_number text = nat_lt 0 (length text) && all_ascii_digits text && (length text == 1 || not (slice_index text 0 == 48))

-- the number from one to another that a word gives
abbrev pub number_from : (from to : ℕ) → List ℕ → Option ℕ
number_from from to text = if is_number text && nat_le from (value_of text) && nat_le (value_of text) to then Some (value_of text) else None

-- What a value means: a word is meant by its number, and isn't empty.
abbrev pub meaning : OptionValue → (k : ℕ) → (word : List ℕ) → Option ℕ
meaning Nothing k word = None
meaning AWord k word = if length word == 0 then None else Some k
meaning (ANumber from to) k word = number_from from to word
meaning (OneOf ns) k word = if is_number word && list_any (λ n. n == value_of word) ns then Some (value_of word) else None

-- ---- what was given

-- of each option, by its place among all, what it was given to mean
abbrev pub none_given : List (Option ℕ)
none_given = None ∷ None ∷ None ∷ None ∷ None ∷ None ∷ None ∷ None ∷ None ∷ None ∷ None ∷ None ∷ None ∷ None ∷ None ∷ []

abbrev pub given : List (Option ℕ) → Name → Option ℕ
given values name = get_or values (place_of name) None

abbrev pub with_value : List (Option ℕ) → Name → ℕ → List (Option ℕ)
with_value values name n = slice_set values (place_of name) (Some n)

-- whether an option was given, or one that excludes it
abbrev pub is_taken : List (Option ℕ) → Name → Bool
is_taken values name = list_any (λ other. is_some (given values other)) (rivals name)

abbrev pub has_required : Verb → List (Option ℕ) → Bool
has_required verb values = list_all (λ group. list_any (λ name. is_some (given values name)) group) (required_of verb)

-- what an option means, given or not
abbrev pub value : List (Option ℕ) → Name → ℕ
value values name = unwrap_or (given values name) (usual name)

abbrev pub settings_of : List (Option ℕ) → Settings
settings_of values = record {
  cycles = value values Cycles;
  stack = value values Stack;
  memory = value values Memory;
  blocks = value values Blocks;
  block_words = value values BlockWords;
  read = value values Read;
  write = value values Write;
}

-- the command, whose first operand is word k; n is the number that it is, or how many operands there are, where the command has either
abbrev pub made : Verb → List (Option ℕ) → (k n : ℕ) → Command
made Link values k n = commands.Link (value values Main) k
made Run values k n = commands.Run (settings_of values) k
made Trace values k n = commands.Trace (settings_of values) (is_some (given values Micro)) k
made Profile values k n = commands.Profile (settings_of values) k (k + 1)
made Bound values k n =
    if is_some (given values All) then commands.BoundAll (settings_of values) k (k + 1)
    else if is_some (given values Shapes) then commands.BoundShapes (settings_of values) (value values Method) k (k + 1)
    else if is_some (given values Facts) then commands.BoundWith (settings_of values) (value values Method) (value values Facts) k (k + 1)
    else commands.Bound (settings_of values) (value values Method) k (k + 1)
made Report values k n = commands.Report (settings_of values) (value values Method) k (k + 1)
made Plan values k n = commands.Plan (settings_of values) (value values Rounds) k (k + 1) (k + 2)
made Cycle values k n = commands.Cycle (settings_of values) (value values Rounds) k (k + 1)
made Check values k n =
    if is_some (given values Facts) then commands.CheckWith (settings_of values) (value values Facts) k (k + 1) (k + 2)
    else commands.Check (settings_of values) k (k + 1) (k + 2)
made Loops values k n = commands.Loops (is_some (given values Further)) k
made Headers values k n = commands.Headers k n
made Need values k n = commands.Memory k (k + 1) (k + 2)
made Rtl values k n = commands.Rtl (settings_of values) k
made Asm values k n = commands.Asm k
made Work values k n = commands.Work n

-- ---- words

-- so many operands from word k on, none empty, which end the words; else the first word that is none of them
abbrev pub exactly_at : (k : ℕ) → (n : ℕ) → List (List ℕ) → Option ℕ
exactly_at k n [] = if n == 0 then None else Some k
exactly_at k n (word ∷ rest) = if n == 0 then Some k else if length word == 0 then Some k else exactly_at (k + 1) (n - 1) rest

-- so many operands at most from word k on, none empty, which end the words; else the first word that is none of them
abbrev pub at_most_at : (k : ℕ) → (n : ℕ) → List (List ℕ) → Option ℕ
at_most_at k n [] = None
at_most_at k n (word ∷ rest) = if n == 0 then Some k else if length word == 0 then Some k else at_most_at (k + 1) (n - 1) rest

-- so many operands or more from word k on, none empty, which end the words; else the first word that is none of them
abbrev pub at_least_at : (k : ℕ) → (n : ℕ) → List (List ℕ) → Option ℕ
at_least_at k n [] = if n == 0 then None else Some k
at_least_at k n (word ∷ rest) = if length word == 0 then Some k else at_least_at (k + 1) (n - 1) rest

-- a number, which ends the words
abbrev pub past_number : (k : ℕ) → Option ℕ → (rest : List (List ℕ)) → Option ℕ
past_number k None rest = Some k
past_number k (Some n) [] = None
past_number k (Some n) (more ∷ rest) = Some (k + 1)

-- the first word at which the operands stop being those, from word k on
abbrev pub operands_stop : OperandCount → (k : ℕ) → (operand : List ℕ) → (rest : List (List ℕ)) → Option ℕ
operands_stop (Exactly n) k operand rest = exactly_at k n (operand ∷ rest)
operands_stop (AtMost n) k operand rest = at_most_at k n (operand ∷ rest)
operands_stop (AtLeast n) k operand rest = at_least_at k n (operand ∷ rest)
operands_stop (Number from to) k operand rest = past_number k (number_from from to operand) rest

-- the number that the operand is, where it is one, and how many operands there are, where the command leaves that open
abbrev pub operand_number : OperandCount → (operand : List ℕ) → (rest : List (List ℕ)) → ℕ
operand_number (Number from to) operand rest = unwrap_or (number_from from to operand) 0
operand_number (AtMost n) operand rest = 1 + length rest
operand_number operands operand rest = 0

abbrev pub unless_stopped : Option ℕ → Command → Result Command ℕ
unless_stopped None command = Ok command
unless_stopped (Some k) command = Err k

-- the operands, of which the first is word k
abbrev pub operands_at : Verb → List (Option ℕ) → (k : ℕ) → (operand : List ℕ) → (rest : List (List ℕ)) → Result Command ℕ
operands_at verb values k operand rest =
    if has_required verb values then unless_stopped (operands_stop (operands_of verb) k operand rest)
    (made verb values k (operand_number (operands_of verb) operand rest)) else Err k

-- how many operands there are at least
abbrev pub least_operands : OperandCount → ℕ
least_operands (Exactly n) = n
least_operands (AtLeast n) = n
least_operands operands = 1

abbrev pub is_flag : OptionValue → Bool
is_flag Nothing = true
is_flag value = false

-- Options, each at most once with its value and none beside one that excludes it, and then the operands, from word k on, which is the value of an option that
-- was named, or isn't. These values were given before.
abbrev pub words_at : (named : Option Name) → Verb → (k : ℕ) → List (Option ℕ) → List (List ℕ) → Result Command ℕ
words_at named verb k values [] = Err k
words_at (Some name) verb k values (word ∷ rest) =
    elim (meaning (value_of_name name) k word) [ None ↦ Err k | Some n ↦ words_at None verb (k + 1) (with_value values name n) rest ]
words_at None verb k values (word ∷ rest) =
    if is_option word then
    elim (name_of verb word) [
      | None ↦ Err k
      | Some name ↦
          if is_taken values name then Err k
          else if is_flag (value_of_name name) then words_at None verb (k + 1) (with_value values name 1) rest
          else words_at (Some name) verb (k + 1) values rest
    ]
    else operands_at verb values k word rest

-- A command, its options and its operands. Else the first word at which no command can go on, or the number of words where they end early.
abbrev pub command_of : List (List ℕ) → Result Command ℕ
command_of [] = Err 0
command_of (word ∷ rest) = elim (verb_named word) [ None ↦ Err 0 | Some verb ↦ words_at None verb 1 none_given rest ]

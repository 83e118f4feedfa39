-- What a command is, as a whole, and that this is what is read.
use Rattle.std.specs.Prelude.{◌≡◌, ℕ, ◌+◌, ◌<◌, ◌≤◌, false, List, [], ◌∷◌, ◌++◌, length, take, Some, None, Ok, Err, Contains, All, Any}
use Rattle.std.specs.declared.option.Option.{Option}
use Rattle.std.specs.declared.result.Result.{Result}
use Rattle.std.specs.List.{flat_map}
use Rattle.std.specs.Option.{option_to_list}
use Rattle.ascii_text.specs.Number.{IsDecimalNumber, value_of}
use Rattle.command_line.specs.declared.table.Verb.{Verb}
use Rattle.command_line.specs.declared.table.Name.{Name}
use Rattle.command_line.specs.declared.command.Command.{Command}
use Rattle.command_line.specs.Table.{name_word, verb_word, names_of, rivals, required_of, OptionValue, Nothing, AWord, ANumber, OneOf, value_of_name}
use Rattle.command_line.specs.Table.{OperandCount}
use Rattle.command_line.specs.Table.{Exactly, AtMost, AtLeast, Number, operands_of}
use Rattle.command_line.specs.Command.{command_of, is_option, none_given, with_value, made}

-- an option that is given: its name, its value if it takes one, and what that means
pub record Chosen : Type 0 where
  pub name : Name
  pub value : Option (List ℕ)
  pub means : ℕ

abbrev pub words_chosen : Chosen → List (List ℕ)
words_chosen c = name_word c.name ∷ option_to_list c.value

abbrev pub IsNumberFrom : (from to : ℕ) → (word : List ℕ) → ℕ → Type 0
IsNumberFrom from to word n = IsDecimalNumber word × (n ≡ value_of word) × (from ≤ n) × (n ≤ to)

-- what a value means that is word k
abbrev pub Means : OptionValue → (k : ℕ) → Option (List ℕ) → ℕ → Type 0
Means Nothing k None n = n ≡ 1
Means Nothing k (Some word) n = ⊥
Means value k None n = ⊥
Means AWord k (Some word) n = (0 < length word) × (n ≡ k)
Means (ANumber from to) k (Some word) n = IsNumberFrom from to word n
Means (OneOf ns) k (Some word) n = IsDecimalNumber word × (n ≡ value_of word) × Contains ns n

-- these are options of the command, from word k on
abbrev pub AreChosen : Verb → (k : ℕ) → List Chosen → Type 0
AreChosen verb k [] = Unit {0}
AreChosen verb k (c ∷ cs) = Contains (names_of verb) c.name × Means (value_of_name c.name) (k + 1) c.value c.means
    × AreChosen verb (k + length (words_chosen c)) cs

-- none of the options has this name, or one that excludes it
abbrev pub IsNoneOf : Name → List Chosen → Type 0
IsNoneOf name [] = Unit {0}
IsNoneOf name (c ∷ cs) = (Contains (rivals name) c.name → ⊥) × IsNoneOf name cs

-- each at most once, and none that excludes another
abbrev pub AreOnce : List Chosen → Type 0
AreOnce [] = Unit {0}
AreOnce (c ∷ cs) = IsNoneOf c.name cs × AreOnce cs

-- what all of them mean, by their places among all options
abbrev pub values_from : List (Option ℕ) → List Chosen → List (Option ℕ)
values_from values [] = values
values_from values (c ∷ cs) = values_from (with_value values c.name c.means) cs

-- as many operands as the command has, none empty; n is the number that the operand is, or how many there are, where the command leaves that open
abbrev pub AreOperands : OperandCount → List (List ℕ) → ℕ → Type 0
AreOperands (Exactly many) words n = (length words ≡ many) × All (λ word. 0 < length word) words × (n ≡ 0)
AreOperands (AtMost many) words n = (0 < length words) × (length words ≤ many) × All (λ word. 0 < length word) words × (n ≡ length words)
AreOperands (AtLeast many) words n = (many ≤ length words) × All (λ word. 0 < length word) words × (n ≡ 0)
AreOperands (Number from to) words n = (word : List ℕ) × (words ≡ word ∷ []) × IsNumberFrom from to word n

abbrev pub BeginsWithNoOption : List (List ℕ) → Type 0
BeginsWithNoOption [] = ⊥
BeginsWithNoOption (word ∷ words) = is_option word ≡ false

-- The words are a command's name; some of its options, each at most once and none that excludes another, of those that it requires one of each group, each with
-- its value; and its operands, of which the first doesn't begin as an option does.
pub record IsCommand (words : List (List ℕ)) (command : Command) : Type 0 where
  pub verb : Verb
  pub options : List Chosen
  pub operands : List (List ℕ)
  pub number : ℕ
  pub words_are : words ≡ verb_word verb ∷ (flat_map words_chosen options ++ operands)
  pub chosen : AreChosen verb 1 options
  pub once : AreOnce options
  pub required : All (λ group. Any (λ (c : Chosen). Contains group c.name) options) (required_of verb)
  pub first : BeginsWithNoOption operands
  pub are_operands : AreOperands (operands_of verb) operands number
  pub command_is : command ≡ made verb (values_from none_given options) (1 + length (flat_map words_chosen options)) number

-- a command can begin with these words
abbrev pub CanGoOn : List (List ℕ) → Type 0
CanGoOn words = (more : List (List ℕ)) × (command : Command) × IsCommand (words ++ more) command

-- A command can begin with the words before word k, and none with word k too. Where there is no word k, the words before it are none yet.
pub record StopsAt (words : List (List ℕ)) (k : ℕ) : Type 0 where
  pub within : k ≤ length words
  pub before : CanGoOn (take k words)
  pub stuck : k < length words → CanGoOn (take (k + 1) words) → ⊥
  pub early : length words ≤ k → (command : Command) → IsCommand words command → ⊥

-- what an answer says of the words
abbrev pub Answers : List (List ℕ) → Result Command ℕ → Type 0
Answers words (Ok command) = IsCommand words command
Answers words (Err k) = StopsAt words k

-- A command that is read is the words' command, and else the words stop at the word that is told.
abbrev pub CommandsAreRead : Type 0
CommandsAreRead = (words : List (List ℕ)) → Answers words (command_of words)

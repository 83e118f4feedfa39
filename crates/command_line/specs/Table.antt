-- The commands, their options and their operands.
use Rattle.std.specs.Prelude.{ℕ, ◌-◌, ◌^◌, Bool, ◌==◌, if◌then◌else◌, List, [], ◌∷◌, Some, None, codes, bytes_eq}
use Rattle.std.specs.declared.option.Option.{Option}
use Rattle.std.specs.List.{find, list_any}
use Rattle.command_line.specs.declared.table.Verb.{Verb}
use Rattle.command_line.specs.declared.table.Verb.TheVariants.{Link, Run, Trace, Profile, Bound, Report, Plan, Cycle, Check, Loops, Headers}
use Rattle.command_line.specs.declared.table.Verb.TheVariants.{Need, Rtl, Asm, Work}
use Rattle.command_line.specs.declared.table.Name.{Name}
use Rattle.command_line.specs.declared.table.Name.TheVariants.{Main, Method, All, Shapes, Cycles, Stack, Memory, Blocks, BlockWords, Read, Write, Micro, Rounds}
use Rattle.command_line.specs.declared.table.Name.TheVariants.{Further, Facts}

-- ---- options

abbrev pub name_word : Name → List ℕ
name_word Main = codes "--main"
name_word Method = codes "--method"
name_word All = codes "--all"
name_word Shapes = codes "--shapes"
name_word Cycles = codes "--cycles"
name_word Stack = codes "--stack"
name_word Memory = codes "--memory"
name_word Blocks = codes "--blocks"
name_word BlockWords = codes "--block-words"
name_word Read = codes "--read"
name_word Write = codes "--write"
name_word Micro = codes "--micro"
name_word Rounds = codes "--rounds"
name_word Further = codes "--further"
name_word Facts = codes "--facts"

abbrev pub all_names : List Name
all_names = Main ∷ Method ∷ All ∷ Shapes ∷ Cycles ∷ Stack ∷ Memory ∷ Blocks ∷ BlockWords ∷ Read ∷ Write ∷ Micro ∷ Rounds ∷ Further ∷ Facts ∷ []

-- the place of an option among all
abbrev pub place_of : Name → ℕ
place_of Main = 0
place_of Method = 1
place_of All = 2
place_of Shapes = 3
place_of Cycles = 4
place_of Stack = 5
place_of Memory = 6
place_of Blocks = 7
place_of BlockWords = 8
place_of Read = 9
place_of Write = 10
place_of Micro = 11
place_of Rounds = 12
place_of Further = 13
place_of Facts = 14

abbrev pub same_name : Name → Name → Bool
same_name a b = place_of a == place_of b

-- the options beside which this one is not given: itself, since none is given twice, and those that exclude it
abbrev pub rivals : Name → List Name
rivals Method = Method ∷ All ∷ []
rivals All = All ∷ Method ∷ Shapes ∷ Facts ∷ []
rivals Shapes = Shapes ∷ All ∷ Blocks ∷ BlockWords ∷ Facts ∷ []
rivals Blocks = Blocks ∷ Shapes ∷ []
rivals BlockWords = BlockWords ∷ Shapes ∷ []
rivals Facts = Facts ∷ All ∷ Shapes ∷ []
rivals name = name ∷ []

-- what an option takes: nothing, a word, a number from one to another, or one of some numbers
pub data OptionValue : Type 0 where
  Nothing : OptionValue
  AWord : OptionValue
  ANumber : (from to : ℕ) → OptionValue
  OneOf : List ℕ → OptionValue

abbrev pub value_of_name : Name → OptionValue
value_of_name Main = AWord
value_of_name Method = AWord
value_of_name All = Nothing
value_of_name Shapes = Nothing
value_of_name Cycles = ANumber 0 (2 ^ 63 - 1)
value_of_name Stack = OneOf (256 ∷ 512 ∷ 1024 ∷ [])
value_of_name Memory = ANumber 16 16777216
value_of_name Blocks = ANumber 1 256
value_of_name BlockWords = ANumber 1 1024
value_of_name Read = ANumber 0 63
value_of_name Write = ANumber 0 63
value_of_name Micro = Nothing
value_of_name Rounds = ANumber 1 32767
value_of_name Further = Nothing
value_of_name Facts = AWord

-- what is meant where an option isn't given
abbrev pub usual : Name → ℕ
usual Cycles = 1000000000
usual Stack = 1024
usual Memory = 262144
usual Blocks = 16
usual BlockWords = 64
usual Read = 1
usual Write = 2
usual name = 0

-- ---- commands

abbrev pub verb_word : Verb → List ℕ
verb_word Link = codes "link"
verb_word Run = codes "run"
verb_word Trace = codes "trace"
verb_word Profile = codes "profile"
verb_word Bound = codes "bound"
verb_word Report = codes "report"
verb_word Plan = codes "plan"
verb_word Cycle = codes "cycle"
verb_word Check = codes "check"
verb_word Loops = codes "loops"
verb_word Headers = codes "headers"
verb_word Need = codes "memory"
verb_word Rtl = codes "rtl"
verb_word Asm = codes "asm"
verb_word Work = codes "work"

abbrev pub all_verbs : List Verb
all_verbs = Link ∷ Run ∷ Trace ∷ Profile ∷ Bound ∷ Report ∷ Plan ∷ Cycle ∷ Check ∷ Loops ∷ Headers ∷ Need ∷ Rtl ∷ Asm ∷ Work ∷ []

-- the four that a bound depends on
abbrev pub bound_names : List Name
bound_names = Blocks ∷ BlockWords ∷ Read ∷ Write ∷ []

-- what a machine has
abbrev pub machine_names : List Name
machine_names = Stack ∷ Memory ∷ bound_names

abbrev pub run_names : List Name
run_names = Cycles ∷ machine_names

abbrev pub names_of : Verb → List Name
names_of Link = Main ∷ []
names_of Run = run_names
names_of Trace = Micro ∷ run_names
names_of Profile = run_names
names_of Bound = Method ∷ All ∷ Shapes ∷ Facts ∷ bound_names
names_of Report = Method ∷ bound_names
names_of Plan = Rounds ∷ bound_names
names_of Cycle = Rounds ∷ run_names
names_of Check = Facts ∷ bound_names
names_of Loops = Further ∷ []
names_of Headers = []
names_of Need = []
names_of Rtl = machine_names
names_of Asm = []
names_of Work = []

-- groups of options, of each of which one has to be given
abbrev pub required_of : Verb → List (List Name)
required_of Link = (Main ∷ []) ∷ []
required_of Bound = (Method ∷ All ∷ []) ∷ []
required_of Report = (Method ∷ []) ∷ []
required_of Plan = (Rounds ∷ []) ∷ []
required_of Cycle = (Rounds ∷ []) ∷ []
required_of verb = []

-- what operands a command has: so many, one to so many, so many or more, or a number from one to another
pub data OperandCount : Type 0 where
  Exactly : ℕ → OperandCount
  AtMost : ℕ → OperandCount
  AtLeast : ℕ → OperandCount
  Number : (from to : ℕ) → OperandCount

abbrev pub operands_of : Verb → OperandCount
operands_of Link = AtLeast 1
operands_of Run = Exactly 1
operands_of Trace = Exactly 1
operands_of Profile = Exactly 2
operands_of Bound = Exactly 2
operands_of Report = Exactly 2
operands_of Plan = AtLeast 3
operands_of Cycle = AtLeast 2
operands_of Check = Exactly 3
operands_of Loops = Exactly 1
operands_of Headers = AtMost 2
operands_of Need = Exactly 3
operands_of Rtl = Exactly 1
operands_of Asm = Exactly 1
operands_of Work = Number 1 1000

-- ---- by their words

abbrev pub verb_named : List ℕ → Option Verb
verb_named word = find (λ verb. bytes_eq word (verb_word verb)) all_verbs

abbrev pub name_named : List ℕ → Option Name
name_named word = find (λ name. bytes_eq word (name_word name)) all_names

abbrev pub has_name : Verb → Name → Bool
has_name verb name = list_any (same_name name) (names_of verb)

-- the option of a command that a word names
abbrev pub kept_by : Verb → Option Name → Option Name
kept_by verb None = None
kept_by verb (Some name) = if has_name verb name then Some name else None

abbrev pub name_of : Verb → List ℕ → Option Name
name_of verb word = kept_by verb (name_named word)

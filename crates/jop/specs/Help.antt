-- What words ask of the program itself.
use Rattle.std.specs.Prelude.{ℕ, Bool, ◌||◌, if◌then◌else◌, List, [], ◌∷◌, Some, None, codes, bytes_eq}
use Rattle.std.specs.declared.option.Option.{Option}
use Rattle.jop.specs.declared.help.Question.{Question}
use Rattle.jop.specs.declared.help.Question.TheVariants.{Version, Commands, Link, Run, Trace, Profile, Bound, Report, Plan, Cycle, Check}
use Rattle.jop.specs.declared.help.Question.TheVariants.{Loops, Headers, Memory, Rtl, Work, Asm}
use Rattle.jop.specs.declared.help.TheConstants as texts

abbrev pub is_help : (word : List ℕ) → Bool
is_help word = bytes_eq word (codes "--help") || bytes_eq word (codes "-h")

-- a word that stands alone
abbrev pub alone : (word : List ℕ) → Option Question
alone word = if is_help word then Some Commands else if bytes_eq word (codes "--version") then Some Version else None

-- the word that names a command, and the question about it
pub record Named : Type 0 where
  pub word : List ℕ
  pub question : Question

abbrev pub commands : List Named
commands =
    record { word = codes "link"; question = Link }
    ∷ record { word = codes "run"; question = Run }
    ∷ record { word = codes "trace"; question = Trace }
    ∷ record { word = codes "profile"; question = Profile }
    ∷ record { word = codes "bound"; question = Bound }
    ∷ record { word = codes "report"; question = Report }
    ∷ record { word = codes "plan"; question = Plan }
    ∷ record { word = codes "cycle"; question = Cycle }
    ∷ record { word = codes "check"; question = Check }
    ∷ record { word = codes "loops"; question = Loops }
    ∷ record { word = codes "headers"; question = Headers }
    ∷ record { word = codes "memory"; question = Memory }
    ∷ record { word = codes "rtl"; question = Rtl }
    ∷ record { word = codes "work"; question = Work }
    ∷ record { word = codes "asm"; question = Asm }
    ∷ []

-- the first of these that the word names
abbrev pub named_among : (word : List ℕ) → List Named → Option Question
named_among word [] = None
named_among word (n ∷ ns) = if bytes_eq word n.word then Some n.question else named_among word ns

abbrev pub command_named : (word : List ℕ) → Option Question
command_named word = named_among word commands

-- `--help`, `-h` or `--version` alone; a command before `--help` or `-h`; a command behind `help`
abbrev pub question_of : (words : List (List ℕ)) → Option Question
question_of (word ∷ []) = alone word
question_of (first ∷ second ∷ []) =
    if is_help second then command_named first else if bytes_eq first (codes "help") then command_named second else None
question_of words = None

-- the text that answers: the constant of the program that has the question's name
abbrev pub help_text : Question → List ℕ
help_text Version = texts.VERSION.now
help_text Commands = texts.COMMANDS.now
help_text Link = texts.LINK.now
help_text Run = texts.RUN.now
help_text Trace = texts.TRACE.now
help_text Profile = texts.PROFILE.now
help_text Bound = texts.BOUND.now
help_text Report = texts.REPORT.now
help_text Plan = texts.PLAN.now
help_text Cycle = texts.CYCLE.now
help_text Check = texts.CHECK.now
help_text Loops = texts.LOOPS.now
help_text Headers = texts.HEADERS.now
help_text Memory = texts.MEMORY.now
help_text Rtl = texts.RTL.now
help_text Work = texts.WORK.now
help_text Asm = texts.ASM.now
